use Rattle.std.proofs.Common.{◌≡◌, ◌++◌, drop}
use Rattle.jskw_c.specs.Line.{escaped}
use Rattle.jskw_c.proofs.line.push_word.Given as goal

-- what is written, with what is left of the word
abbrev pub invariant-loop-byte : goal.invariant-loop-byte
invariant-loop-byte l = l.text.items ++ escaped (drop l.byte-index l.word) ≡ l.initial.text.items ++ escaped l.word
