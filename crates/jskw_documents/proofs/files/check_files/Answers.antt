use Rattle.std.proofs.Common.{◌≡◌, ◌∙◌, ◌∷◌, ◌+◌, [], List, ap, arith, drop, map, subst, sym, ℕ}
use Rattle.std.proofs.lemmas.List.{drop_all}
use Rattle.std.proofs.lemmas.List.Elements.{All-get_or}
use Rattle.std.specs.List.{All}
use Rattle.jskw_report.proofs.GatheredNodes.{drop_here}
use Rattle.jskw_documents.specs.Files.{AnswersFile, AnswersFiles}
use Rattle.jskw_documents.specs.declared.stream.Stream.{Stream}
use Rattle.jskw_documents.proofs.Answered.{AnswersSoFar, Writes, all_files_answered, next_answered, none_answered}
use Rattle.jskw_documents.proofs.files.check_files.Goals as goal

pub loop-stream-init : goal.loop-stream-init
loop-stream-init g c = record {
  answers =
      none_answered c.args.checker.now c.args.lines (g.F.Folder.bytes_of c.args.folder.now)
      (map (λ s. s.file.now) c.deref-stream-items.result.now) (g.W.Sink.contents c.args.writer.now);
  writes = c.requires;
}

pub loop-stream-preserved : goal.loop-stream-preserved
loop-stream-preserved g c =
    let names : List Stream → List (List ℕ) = λ streams. map (λ s. s.file.now) streams in
    let l = c.loop-stream in
    let streams = c.deref-stream-items.result.now in
    let stream = c.stream-item.result in
    let checker = c.args.checker.now in
    let bytes_of = g.F.Folder.bytes_of c.args.folder.now in
    let before = g.W.Sink.contents c.args.writer.now in
    let after = g.W.Sink.contents c.check_file.new.writer in
    let now = g.W.Sink.contents l.writer in
    let rest = names (drop (l.stream-index + 1) streams) in
    let within = c.loop-stream-test.true in
    let here : names (drop l.stream-index streams) ≡ stream.file.now ∷ rest =
    ap names (drop_here streams l.stream-index stream within c.stream-item.is) in
    let all : All (λ s. s.checker.now ≡ checker) streams =
    subst (All (λ s. s.checker.now ≡ checker)) (sym c.deref-stream-items.ensures.value)
    c.in_ok-streams.ensures.checker in
    let under : stream.checker.now ≡ checker =
    subst (λ s. s.checker.now ≡ checker) (sym c.stream-item.is)
    (All-get_or (λ s. s.checker.now ≡ checker) streams l.stream-index stream within all) in
    let next =
    next_answered checker c.args.lines bytes_of (names streams) (names (drop l.stream-index streams)) rest
    stream.file.now l.verdict c.in_ok-said.said before now after here l.invariant.answers
    (subst
    (λ z. Writes (AnswersFile z c.args.lines stream.file.now (bytes_of stream.file.now) c.in_ok-said.said) now after)
    under c.in_ok-said.ensures.answers) in
    record {
      answers =
          subst (λ z. AnswersSoFar checker c.args.lines bytes_of (names streams) rest z before after)
          (sym c.worse_of-verdict.ensures) next;
      writes = c.in_ok-said.ensures.failed;
    }

pub returns-clause-answers : goal.returns-clause-answers
returns-clause-answers g c =
    let names : List Stream → List (List ℕ) = λ streams. map (λ s. s.file.now) streams in
    let l = c.loop-stream in
    let streams = c.deref-stream-items.result.now in
    let checker = c.args.checker.now in
    let bytes_of = g.F.Folder.bytes_of c.args.folder.now in
    let before = g.W.Sink.contents c.args.writer.now in
    let now = g.W.Sink.contents l.writer in
    let none : names (drop l.stream-index streams) ≡ [] =
    ap names (drop_all l.stream-index streams (omega arith)) in
    subst (λ files. Writes (AnswersFiles checker c.args.lines bytes_of files l.verdict) before now)
    (ap names c.deref-stream-items.ensures.value ∙ c.in_ok-streams.ensures.names)
    (all_files_answered checker c.args.lines bytes_of (names streams) (names (drop l.stream-index streams)) l.verdict
    before now none l.invariant.answers)
