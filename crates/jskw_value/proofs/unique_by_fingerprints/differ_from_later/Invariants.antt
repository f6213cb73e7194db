use Rattle.std.proofs.Common.{◌≡◌, length}
use Rattle.jskw_value.specs.Tree.{items}
use Rattle.jskw_value.specs.Unique.{AreNewIn}
use Rattle.jskw_value.proofs.unique_by_fingerprints.differ_from_later.Given as goal

abbrev pub invariant-loop-i : goal.invariant-loop-i
invariant-loop-i g l =
    (l.i-end ≡ length (items (g.N.Rooted.tree l.array)))
    × AreNewIn l.start l.end l.end l.i (items (g.N.Rooted.tree l.array))
