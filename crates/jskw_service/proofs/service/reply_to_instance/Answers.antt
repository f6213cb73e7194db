use Rattle.std.proofs.Common.{◌≡◌, ◌∙◌, true, sym, is_none, rules}
use Rattle.jskw_service.proofs.service.reply_to_instance.Goals as goal

pub first_errors-requires : goal.first_errors-requires
first_errors-requires c =
    let none : is_none c.in_ok-location.field-0 ≡ true = search (rules, c.in_default.is) in
    sym c.in_ok-location.ensures.lawful ∙ none
