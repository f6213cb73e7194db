use Rattle.std.proofs.Common.{◌≡◌, ◌+◌, ◌-◌, ◌≤◌, drop}
use Rattle.jskw_value.specs.Tree.{items}
use Rattle.jskw_report.specs.Holds.{assertion_holds}
use Rattle.jskw_report.specs.Keyword.{type_is}
use Rattle.jskw_report.specs.declared.error.TypeKind.TheVariants.{Single}
use Rattle.jskw_number.specs.QuickSet.{leading}
use Rattle.jskw_leaf.proofs.in_place.item_type.first_other.Given as goal

abbrev pub invariant-loop-index : goal.invariant-loop-index
invariant-loop-index g l =
    let ts = items (g.F.Node.Rooted.tree l.instance) in
    let matches = assertion_holds (type_is (Single g.T.TypeTest.json_type) g.T.TypeTest.rule) in
    record {
      within : l.index ≤ l.count;
      answer : l.index + leading matches (drop l.index ts) ≡ l.from + leading matches (drop l.from ts);
    }

abbrev pub decreases-loop-index : goal.decreases-loop-index
decreases-loop-index g l = l.count - l.index

abbrev pub invariant-loop-rest : goal.invariant-loop-rest
invariant-loop-rest g l =
    let ts = items (g.F.Node.Rooted.tree l.instance) in
    let matches = assertion_holds (type_is (Single g.T.TypeTest.json_type) g.T.TypeTest.rule) in
    record {
      answer : l.rest + leading matches (drop l.rest ts) ≡ l.from + leading matches (drop l.from ts);
    }
