use Rattle.std.proofs.Common.{◌-◌, ◌≤◌, length}
use Rattle.jskw_text.proofs.scan.word_end.Given as goal

abbrev pub invariant-bytes : goal.invariant-bytes
invariant-bytes l = (l.from ≤ l.at) × (l.at ≤ length l.bytes)

abbrev pub decreases-bytes : goal.decreases-bytes
decreases-bytes l = length l.bytes - l.at
