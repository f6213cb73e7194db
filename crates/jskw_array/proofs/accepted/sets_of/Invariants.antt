use Rattle.std.proofs.Common.{take}
use Rattle.jskw_array.specs.Words.{SetsAccept}
use Rattle.jskw_array.proofs.accepted.sets_of.Given as goal

abbrev pub invariant-loop-node : goal.invariant-loop-node
invariant-loop-node g l = SetsAccept l.sets.items (take l.node-index l.nodes)
