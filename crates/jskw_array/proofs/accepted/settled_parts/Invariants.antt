use Rattle.std.proofs.Common.{◌≡◌}
use Rattle.jskw_array.specs.Words.{AreSettled}
use Rattle.jskw_array.proofs.accepted.settled_parts.Given as goal

abbrev pub invariant-loop-part : goal.invariant-loop-part
invariant-loop-part g l = record { begins : AreSettled l.settled l.parts; count : l.settled.count ≡ l.part-index }
