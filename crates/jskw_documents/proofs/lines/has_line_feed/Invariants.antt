use Rattle.std.proofs.Common.{◌≡◌, take, false, true}
use Rattle.jskw_documents.specs.Streams.{is_in_line}
use Rattle.jskw_documents.proofs.lines.has_line_feed.Given as goal

abbrev pub invariant-loop-byte : goal.invariant-loop-byte
invariant-loop-byte l = l.found ≡ false → is_in_line (take l.byte-index l.block) ≡ true
