use Rattle.std.proofs.Common.{◌≡◌, ◌∙◌, ap₂, nat_eq, sym, arith}
use Rattle.jskw_value.specs.Tree.{items}
use Rattle.jskw_report.specs.Holds.{assertion_holds}
use Rattle.jskw_number.specs.QuickSet.{leading}
use Rattle.jskw_leaf.specs.Meaning.{single_type}
use Rattle.jskw_leaf.proofs.BareTypeChecks.{bare_all_hold}
use Rattle.jskw_leaf.proofs.TypeWalks.{all_leading}
use Rattle.jskw_leaf.proofs.in_place.item_type.ItemsTypeValidatorValidate.is_valid.Goals as goal

pub returns-clause-answer : goal.returns-clause-answer
returns-clause-answer g c =
    let v = c.args.self.now in
    let a = single_type g.T.TypeTest.json_type g.T.TypeTest.rule v.validator in
    let check = assertion_holds a.assertion in
    let ts = items (g.F.Node.Rooted.tree c.args.instance.now) in
    let first = c.first_other.ensures.first in
    let index : c.first_other.result ≡ leading check ts = omega (arith, first) in
    ap₂ nat_eq index c.item_count-count.ensures ∙ all_leading check ts ∙ sym (bare_all_hold v.location a ts)
