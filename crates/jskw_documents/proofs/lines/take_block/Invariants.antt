use Rattle.std.proofs.Common.{◌≡◌, List, ℕ, false, length}
use Rattle.jskw_documents.specs.Streams.{IsKept}
use Rattle.jskw_documents.proofs.Taking.{TakesSome}
use Rattle.jskw_documents.proofs.lines.take_block.Given as goal

-- what is before the rest is taken
abbrev pub invariant-ends : goal.invariant-ends
invariant-ends g l = record {
  takes :
      (line : List ℕ) → IsKept l.initial.lines.begun line
      → TakesSome l.stream.checker.now l.stream.file.now line l.initial.lines l.lines l.block l.rest
      (g.W.Sink.contents l.fn.writer) (g.W.Sink.contents l.writer) l.text.items;
  works : g.W.Sink.has_failed l.writer ≡ false;
}

abbrev pub decreases-ends : goal.decreases-ends
decreases-ends g l = length l.rest
