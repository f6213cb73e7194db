use Rattle.std.proofs.Common.{◌≡◌, drop}
use Rattle.serde_json.specs.View.{items_view}
use Rattle.jskw_report.specs.KeywordValue.{type_set}
use Rattle.jskw_leaf.proofs.TypeSets.{with_types}
use Rattle.jskw_leaf.proofs.type_.compilation.type_set.Given as goal

-- the types so far, with those that are left
abbrev pub invariant-loop-item : goal.invariant-loop-item
invariant-loop-item l =
    with_types l.types (type_set l.location (items_view (drop l.item-index l.items)))
    ≡ type_set l.location (items_view l.items)
