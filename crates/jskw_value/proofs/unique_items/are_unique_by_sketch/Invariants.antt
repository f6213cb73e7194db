use Rattle.std.proofs.Common.{◌≡◌, ◌+◌, ◌-◌, ◌*◌, ◌/◌, length}
use Rattle.jskw_value.specs.Tree.{items}
use Rattle.jskw_value.specs.Unique.{IsUniqueIn}
use Rattle.jskw_value.proofs.unique_items.are_unique_by_sketch.Given as goal

abbrev pub invariant-loop-block : goal.invariant-loop-block
invariant-loop-block g l =
    (l.count ≡ length (items (g.N.Rooted.tree l.array))) × (l.blocks ≡ (l.count - 1) / l.size)
    × IsUniqueIn 0 (l.block * l.size + 1) (items (g.N.Rooted.tree l.array))
