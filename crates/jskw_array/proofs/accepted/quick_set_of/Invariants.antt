use Rattle.jskw_array.proofs.AcceptedValues.{Accepted}
use Rattle.jskw_array.proofs.accepted.quick_set_of.Given as goal

abbrev pub invariant-loop-part : goal.invariant-loop-part
invariant-loop-part g l = Accepted l.parts l.accepted l.part-index
