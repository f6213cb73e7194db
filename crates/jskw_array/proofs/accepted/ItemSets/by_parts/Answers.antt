use Rattle.std.proofs.Common.{arith}
use Rattle.jskw_array.proofs.AcceptedArrays.{narrowed_end}
use Rattle.jskw_array.proofs.accepted.ItemSets.by_parts.Goals as goal

pub returns : goal.returns
returns g c = let l = c.loop-part in
    narrowed_end c.args.lengths c.args.parts.now l.part-index l.arrays (omega arith) l.invariant
