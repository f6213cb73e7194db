use Rattle.std.proofs.Common.{◌≡◌, drop}
use Rattle.jskw_leaf.specs.Options.{only}
use Rattle.serde_json.specs.View.{items_view}
use Rattle.jskw_leaf.proofs.enum_.compilation.are_all.Given as goal

abbrev pub invariant-loop-item : goal.invariant-loop-item
invariant-loop-item g l =
    only g.T.OptionTable.takes (items_view (drop l.item-index l.items))
    ≡ only g.T.OptionTable.takes (items_view l.items)
