use Rattle.std.proofs.Common.{◌≡◌, ◌<◌, length}
use Rattle.jskw_value.specs.Tree.{items}
use Rattle.jskw_value.proofs.doubt.mark_doubtful.Given as goal

abbrev pub invariant-loop-part : goal.invariant-loop-part
invariant-loop-part g l =
    (l.count ≡ length (items (g.N.Rooted.tree l.array))) × (0 < l.parts)
    × (length l.doubtful ≡ length l.fn.doubtful)

abbrev pub invariant-loop-i : goal.invariant-loop-i
invariant-loop-i g l =
    (l.count ≡ length (items (g.N.Rooted.tree l.array))) × (0 < l.parts)
    × (length l.doubtful ≡ length l.fn.doubtful)
