use Rattle.std.proofs.Common.{◌≡◌, ◌-◌, ◌/◌, min, length}
use Rattle.jskw_value.specs.Fingerprint.{pairs_stirred, text_begun}
use Rattle.jskw_value.proofs.fingerprint.of_many_words.Given as goal

abbrev pub invariant-loop-i : goal.invariant-loop-i
invariant-loop-i l =
    (l.i-end ≡ min l.budget ((length l.bytes - 1) / 16))
    × (l.hash ≡ pairs_stirred l.i (text_begun l.seed (length l.bytes)) l.bytes)
