use Rattle.std.proofs.Common.{◌≡◌, drop}
use Rattle.serde_json.specs.View.{items_view}
use Rattle.jskw_value.specs.Types.{no_types}
use Rattle.jskw_leaf.specs.Options.{option_types}
use Rattle.jskw_leaf.proofs.enum_.compilation.types_of.Given as goal

abbrev pub invariant-loop-item : goal.invariant-loop-item
invariant-loop-item l =
    option_types l.types (items_view (drop l.item-index l.items)) ≡ option_types no_types (items_view l.items)
