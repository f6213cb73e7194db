use Rattle.std.proofs.Common.{◌≡◌, ◌++◌, drop}
use Rattle.serde_json.specs.View.{items_view}
use Rattle.jskw_leaf.specs.Options.{integer_of, picked}
use Rattle.jskw_leaf.proofs.enum_.integers.integers_of.Given as goal

abbrev pub invariant-loop-item : goal.invariant-loop-item
invariant-loop-item l =
    l.integers.items ++ picked integer_of (items_view (drop l.item-index l.items))
    ≡ picked integer_of (items_view l.items)
