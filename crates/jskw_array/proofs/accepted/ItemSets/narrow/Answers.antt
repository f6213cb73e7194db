use Rattle.std.proofs.Common.{◌≡◌, rules, is_none, true, ap, subst, arith}
use Rattle.jskw_array.specs.Words.{SetsAccept, validator_keyword}
use Rattle.jskw_array.proofs.AcceptedArrays.{adds_front, adds_rest, is_absent_of, no_items}
use Rattle.jskw_array.proofs.accepted.ItemSets.narrow.Goals as goal

pub returns-in_ok-self-in-Each : goal.returns-in_ok-self-in-Each
returns-in_ok-self-in-Each g c filled =
    let a = c.args.self.now in
    let new = c.in_ok-self-in-Each.field-0 in
    let accept = subst (SetsAccept new.items) c.as_slice.ensures.value c.in_ok-self-in-Each.ensures in
    let none = no_items a.front.items (omega (arith, c.len.ensures, a.front.ok.0)) in
    adds_front a.lengths a.front new a.start a.rest c.in-Each.each _ none accept (ap validator_keyword c.in-Each.is)

pub returns-in-Rest : goal.returns-in-Rest
returns-in-Rest g c filled =
    let a = c.args.self.now in
    let none : is_none a.rest ≡ true = search (rules, c.if-is_none.ensures) in
    adds_rest a.lengths a.front a.start a.rest c.values-set.result c.in-Rest.rest _ (is_absent_of a.rest none)
    c.values-set.ensures (ap validator_keyword c.in-Rest.is)
