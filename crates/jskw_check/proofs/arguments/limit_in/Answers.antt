use Rattle.std.proofs.Common.{◌≡◌, ◌==◌, ℕ, false, get_or, rules}
use Rattle.jskw_check.proofs.Numbers.{limit_read, limit_unread}
use Rattle.jskw_check.proofs.arguments.limit_in.Goals as goal

pub returns-in-Ok : goal.returns-in-Ok
returns-in-Ok c =
    let plain : (get_or c.args.text.now 0 0 == 43) ≡ false = search rules in
    limit_read ℕ c.args.text.now c.in-Ok.limit plain c.in-Ok.ensures.value.0

pub returns-in-Err : goal.returns-in-Err
returns-in-Err c =
    let plain : (get_or c.args.text.now 0 0 == 43) ≡ false = search rules in
    limit_unread c.in-Err.field-0 c.args.text.now plain c.in-Err.ensures.value.0
