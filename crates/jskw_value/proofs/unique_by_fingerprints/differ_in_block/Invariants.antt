use Rattle.jskw_value.specs.Tree.{items}
use Rattle.jskw_value.specs.Unique.{AreNewIn}
use Rattle.jskw_value.proofs.unique_by_fingerprints.differ_in_block.Given as goal

abbrev pub invariant-loop-i : goal.invariant-loop-i
invariant-loop-i g l = AreNewIn l.start l.end l.start l.i (items (g.N.Rooted.tree l.array))
