use Rattle.jskw_array.proofs.AcceptedArrays.{Narrowed}
use Rattle.jskw_array.proofs.accepted.ItemSets.by_parts.Given as goal

abbrev pub invariant-loop-part : goal.invariant-loop-part
invariant-loop-part g l = Narrowed l.fn.lengths l.parts l.part-index l.arrays
