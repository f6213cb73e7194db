use Rattle.std.proofs.Common.{◌≡◌, length}
use Rattle.jskw_value.specs.Tree.{items}
use Rattle.jskw_value.specs.Unique.{IsToldOf}
use Rattle.jskw_value.proofs.unique_items.is_block_unique.Given as goal

abbrev pub invariant-loop-i : goal.invariant-loop-i
invariant-loop-i g l =
    (l.count ≡ length (items (g.N.Rooted.tree l.array))) × (length l.sketch ≡ length l.fn.sketch)
    × IsToldOf l.start l.end l.budget l.i l.sketch (items (g.N.Rooted.tree l.array))
