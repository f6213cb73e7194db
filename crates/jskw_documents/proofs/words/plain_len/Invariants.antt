use Rattle.std.proofs.Common.{◌≡◌, ◌+◌, ◌-◌, ◌≤◌, length, drop}
use Rattle.std.specs.List.{prefix_len}
use Rattle.jskw_documents.specs.Shown.{is_plain}
use Rattle.jskw_documents.proofs.words.plain_len.Given as goal

abbrev pub invariant-bytes : goal.invariant-bytes
invariant-bytes l =
    (prefix_len is_plain l.words ≡ l.at + prefix_len is_plain (drop l.at l.words)) × (l.at ≤ length l.words)

abbrev pub decreases-bytes : goal.decreases-bytes
decreases-bytes l = length l.words - l.at
