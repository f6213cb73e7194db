use Rattle.std.proofs.Common.{◌≡◌, drop}
use Rattle.jskw_leaf.specs.Options.{has_null}
use Rattle.serde_json.specs.View.{items_view}
use Rattle.jskw_leaf.proofs.enum_.compilation.has_null.Given as goal

abbrev pub invariant-loop-item : goal.invariant-loop-item
invariant-loop-item l = has_null (items_view (drop l.item-index l.items)) ≡ has_null (items_view l.items)
