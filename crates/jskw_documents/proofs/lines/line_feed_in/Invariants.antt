use Rattle.std.proofs.Common.{◌≡◌, ◌≤◌, length, take, true}
use Rattle.jskw_documents.specs.Streams.{is_in_line}
use Rattle.jskw_documents.proofs.lines.line_feed_in.Given as goal

-- no line feed so far
abbrev pub invariant-bytes : goal.invariant-bytes
invariant-bytes l = record { within : l.at ≤ length l.bytes; inside : is_in_line (take l.at l.bytes) ≡ true }
