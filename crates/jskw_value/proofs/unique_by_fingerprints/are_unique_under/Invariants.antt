use Rattle.std.proofs.Common.{◌≡◌, ◌-◌, ◌≤◌, length}
use Rattle.jskw_value.specs.Tree.{items}
use Rattle.jskw_value.specs.Unique.{IsUniqueIn}
use Rattle.jskw_value.proofs.unique_by_fingerprints.are_unique_under.Given as goal

abbrev pub invariant-loop-start : goal.invariant-loop-start
invariant-loop-start g l =
    (l.count ≡ length (items (g.N.Rooted.tree l.array))) × (l.start ≤ l.count)
    × IsUniqueIn 0 l.start (items (g.N.Rooted.tree l.array))

abbrev pub decreases-loop-start : goal.decreases-loop-start
decreases-loop-start g l = l.count - l.start
