use Rattle.std.proofs.Common.{◌≡◌, ◌-◌, ◌≤◌, length, drop}
use Rattle.jskw_report.proofs.ReportedFailures.{Reported}
use Rattle.jskw_leaf.specs.Items.{bare_schema}
use Rattle.jskw_report.specs.Fail.{each_item, fail}
use Rattle.jskw_value.specs.Tree.{items}
use Rattle.jskw_report.specs.Paths.{path_of}
use Rattle.jskw_leaf.specs.Meaning.{single_type}
use Rattle.jskw_leaf.proofs.in_place.item_type.ItemsTypeValidatorValidate.report_errors.Given as goal

abbrev pub invariant-loop-index : goal.invariant-loop-index
invariant-loop-index g l =
    let tree = g.F.Node.Rooted.tree in
    let ts = items (tree l.instance) in
    let p = path_of l.initial.location in
    let s = bare_schema l.self.location (single_type g.T.TypeTest.json_type g.T.TypeTest.rule l.self.validator) in
    record {
      within : l.index ≤ length ts;
      last : l.count ≡ length ts;
      reported : Reported tree l.initial.report l.report (each_item (fail s) l.index (drop l.index ts) p)
          (each_item (fail s) 0 ts p);
      location : l.location ≡ l.initial.location;
      counted : l.ctx ≡ l.initial.ctx;
    }

abbrev pub decreases-loop-index : goal.decreases-loop-index
decreases-loop-index g l = l.count - l.index
