use Rattle.std.proofs.Common.{◌≡◌, min, true}
use Rattle.jskw_array.specs.Words.{in_sets, items, length, take}
use Rattle.jskw_array.proofs.accepted.ItemSets.front_count.Given as goal

abbrev pub invariant-loop-index : goal.invariant-loop-index
invariant-loop-index g l =
    let ts = items (g.N.Rooted.tree l.instance) in
    record {
      last : l.front ≡ min (length ts) (length l.self.front.items);
      in_front : in_sets (take l.index l.self.front.items) ts ≡ true;
    }
