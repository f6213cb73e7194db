use Rattle.std.proofs.Common.{◌≡◌, ◌++◌, drop}
use Rattle.serde_json.specs.Find.{as_str}
use Rattle.serde_json.specs.View.{items_view}
use Rattle.jskw_leaf.specs.Options.{picked}
use Rattle.jskw_leaf.proofs.enum_.strings.texts_of.Given as goal

abbrev pub invariant-loop-item : goal.invariant-loop-item
invariant-loop-item l =
    l.texts.items ++ picked as_str (items_view (drop l.item-index l.items)) ≡ picked as_str (items_view l.items)
