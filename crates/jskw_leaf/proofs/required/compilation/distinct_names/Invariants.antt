use Rattle.std.proofs.Common.{◌≡◌, ℕ, List, drop, map}
use Rattle.std.specs.List.{fold}
use Rattle.serde_json.specs.View.{items_view}
use Rattle.jskw_report.specs.KeywordValue.{map_ok, texts, distinct}
use Rattle.jskw_leaf.specs.Required.{is_among}
use Rattle.jskw_leaf.proofs.NamesOnce.{add, sees}
use Rattle.jskw_leaf.proofs.required.compilation.distinct_names.Given as goal

-- the names so far are those that were seen; the others are added to them
abbrev pub invariant-loop-item : goal.invariant-loop-item
invariant-loop-item l =
    record {
      seen : (name : List ℕ) → sees l.seen name ≡ is_among (map (λ k. k.now) l.names.items) name;
      read : map_ok (fold add (map (λ k. k.now) l.names.items))
          (texts l.location (items_view (drop l.item-index l.items)))
          ≡ map_ok distinct (texts l.location (items_view l.items));
    }
