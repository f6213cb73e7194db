use Rattle.std.proofs.Common.{◌≡◌, length}
use Rattle.jskw_value.specs.Tree.{items}
use Rattle.jskw_value.specs.Unique.{AreRising}
use Rattle.jskw_value.proofs.rising_items.are_rising.Given as goal

abbrev pub invariant-loop-i : goal.invariant-loop-i
invariant-loop-i g l =
    (l.i-end ≡ length (items (g.N.Rooted.tree l.array))) × AreRising l.i l.least (items (g.N.Rooted.tree l.array))
