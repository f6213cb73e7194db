use Rattle.std.proofs.Common.{◌≡◌, drop}
use Rattle.serde_json.specs.View.{items_view}
use Rattle.jskw_report.specs.Holds.{is_option}
use Rattle.jskw_leaf.proofs.enum_.is_among.Given as goal

abbrev pub invariant-loop-item : goal.invariant-loop-item
invariant-loop-item g l =
    is_option (items_view (drop l.item-index l.items)) (g.F.Node.Rooted.tree l.instance)
    ≡ is_option (items_view l.items) (g.F.Node.Rooted.tree l.instance)
