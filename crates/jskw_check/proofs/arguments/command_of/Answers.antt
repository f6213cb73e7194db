use Rattle.std.proofs.Common.{◌≡◌, length, rules}
use Rattle.jskw_check.proofs.Steps.{at_end}
use Rattle.jskw_check.proofs.arguments.command_of.Goals as goal

pub returns : goal.returns
returns c =
    let none : length c.words.rest.now ≡ 0 = search rules in
    at_end c.command_from.result c.words.said c.words.rest.now _ none c.words.invariant c.command_from.ensures
