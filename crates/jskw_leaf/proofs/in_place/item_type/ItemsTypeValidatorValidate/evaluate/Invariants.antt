use Rattle.std.proofs.Common.{◌≡◌, ◌++◌, length, drop}
use Rattle.jskw_leaf.specs.Items.{bare_schema}
use Rattle.jskw_report.specs.Evaluation.{evaluate_each, tree}
use Rattle.jskw_value.specs.Tree.{items}
use Rattle.jskw_report.specs.Paths.{path_of}
use Rattle.jskw_leaf.specs.Meaning.{single_type}
use Rattle.jskw_leaf.proofs.in_place.item_type.ItemsTypeValidatorValidate.evaluate.Given as goal

abbrev pub invariant-loop-index : goal.invariant-loop-index
invariant-loop-index g l =
    let ts = items (g.F.Node.Rooted.tree l.instance) in
    let p = path_of l.initial.location in
    let s = bare_schema l.self.location (single_type g.T.TypeTest.json_type g.T.TypeTest.rule l.self.validator) in
    record {
      last : l.count ≡ length ts;
      gathered : l.children.items ++ evaluate_each (tree s) l.index (drop l.index ts) p ≡ evaluate_each (tree s) 0 ts p;
      location : l.location ≡ l.initial.location;
    }
