use Rattle.std.proofs.Common.{string_bytes}
use Rattle.jskw_sentence.specs.Growth.{GrowsWithin}
use Rattle.jskw_sentence.proofs.value.write_text.Given as goal

abbrev pub invariant-loop-c : goal.invariant-loop-c
invariant-loop-c l = GrowsWithin (string_bytes l.fn.text) l.fn.room (string_bytes l.text) l.room
