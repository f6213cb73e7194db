use Rattle.std.proofs.Common.{◌≡◌, [], false}
use Rattle.jskw_documents.specs.Streams.{Moves}
use Rattle.jskw_documents.proofs.lines.check_lines.Given as goal

-- what was read is taken, and its answers are written
abbrev pub invariant-reads : goal.invariant-reads
invariant-reads g l = record {
  moves :
      Moves l.stream.checker.now l.stream.file.now [] l.initial.lines l.lines (g.R.Source.remaining l.fn.reader)
      (g.R.Source.remaining l.reader) (g.W.Sink.contents l.fn.writer) (g.W.Sink.contents l.writer);
  reads : g.R.Source.has_failed l.reader ≡ false;
  writes : g.W.Sink.has_failed l.writer ≡ false;
}
