use Rattle.std.proofs.Common.{◌≡◌, drop, false, map}
use Rattle.jskw_documents.proofs.Answered.{AnswersSoFar}
use Rattle.jskw_documents.proofs.files.check_files.Given as goal

-- the files before this one are answered
abbrev pub invariant-loop-stream : goal.invariant-loop-stream
invariant-loop-stream g l = record {
  answers :
      AnswersSoFar l.checker l.lines (g.F.Folder.bytes_of l.folder) (map (λ s. s.file.now) l.stream-items)
      (map (λ s. s.file.now) (drop l.stream-index l.stream-items)) l.verdict (g.W.Sink.contents l.fn.writer)
      (g.W.Sink.contents l.writer);
  writes : g.W.Sink.has_failed l.writer ≡ false;
}
