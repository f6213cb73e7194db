use Rattle.std.proofs.Common.{◌≡◌, [], false, refl, rules}
use Rattle.jskw_documents.proofs.Taking.{all_answered_if, begun_answered, moves_then}
use Rattle.jskw_documents.proofs.lines.check_lines.Goals as goal

pub reads-preserved : goal.reads-preserved
reads-preserved g c = record {
  moves =
      moves_then c.args.stream.now.checker.now c.args.stream.now.file.now [] _ c.reads.lines _ _ _ _ _ _ _
      c.reads.invariant.moves c.in_ok-take_next.ensures.moves;
  reads = c.in_ok-take_next.ensures.works;
  writes = c.in_ok-take_next.ensures.failed;
}

pub returns-in_err-take_next-clause-begun : goal.returns-in_err-take_next-clause-begun
returns-in_err-take_next-clause-begun g c = λ read.
    begun_answered c.args.stream.now.checker.now c.args.stream.now.file.now _ _ _ _ _ _ refl refl
    (moves_then c.args.stream.now.checker.now c.args.stream.now.file.now [] _ c.reads.lines _ _ _ _ _ _ _
    c.reads.invariant.moves (c.in_err-take_next.ensures.unread (search (rules, read, c.from_residual.ensures))))

pub returns-then-not-branch-clause-answers : goal.returns-then-not-branch-clause-answers
returns-then-not-branch-clause-answers g c =
    let last : c.in_ok-take_next.field-0 ≡ false = search (rules, c.if-not-branch.true) in
    all_answered_if c.take_last.result c.args.stream.now.checker.now c.args.stream.now.file.now _
    c.take_next.new.lines _ _ _ _ _ refl refl
    (moves_then c.args.stream.now.checker.now c.args.stream.now.file.now [] _ c.reads.lines _ _ _ _ _ _ _
    c.reads.invariant.moves c.in_ok-take_next.ensures.moves)
    (c.in_ok-take_next.ensures.end last) c.take_last.ensures.answer
