use Rattle.std.proofs.Common.{◌≡◌, ◌||◌, drop, true}
use Rattle.std.specs.List.{list_all}
use Rattle.serde_json.specs.View.{items_view}
use Rattle.jskw_value.specs.Tree.{Tree}
use Rattle.jskw_report.specs.Holds.{is_option}
use Rattle.jskw_leaf.specs.Values.{has_value, is_fingerprinted}
use Rattle.jskw_leaf.proofs.enum_.values.fingerprinted.Given as goal

abbrev pub invariant-loop-item : goal.invariant-loop-item
invariant-loop-item l = record {
  same : (t : Tree) → (has_value l.options.items t || is_option (items_view (drop l.item-index l.items)) t)
      ≡ is_option (items_view l.items) t;
  fingerprinted : list_all (is_fingerprinted l.seed) l.options.items ≡ true;
}
