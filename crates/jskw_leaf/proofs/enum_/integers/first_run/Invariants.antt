use Rattle.jskw_leaf.proofs.IntegerSets.{AreListed}
use Rattle.jskw_leaf.proofs.enum_.integers.first_run.Given as goal

abbrev pub invariant-loop-integer : goal.invariant-loop-integer
invariant-loop-integer l = AreListed l.table l.first l.last
