use Rattle.std.proofs.Common.{refl, rules, subst, sym}
use Rattle.std.specs.Io.KnownBytes.{Appends}
use Rattle.jskw_documents.specs.Streams.{IsKept}
use Rattle.jskw_documents.proofs.Taking.{block_end, next_end, none_taken}
use Rattle.jskw_documents.proofs.lines.take_block.Goals as goal

pub ends-init : goal.ends-init
ends-init g c = record {
  takes = λ line kept.
      none_taken c.args.stream.now.checker.now c.args.stream.now.file.now line c.args.lines.now c.args.block.now _ _
      c.new-text.ensures.items kept;
  works = c.requires;
}

pub ends-preserved : goal.ends-preserved
ends-preserved g c = record {
  takes = λ line kept.
      next_end c.args.stream.now.checker.now c.args.stream.now.file.now line _ c.ends.lines _ c.args.block.now
      c.ends.rest.now _ _ _ _ _ _ _ (c.ends.invariant.takes line kept) c.in-Some.ensures.1
      c.in_ok-end_line.ensures.takes;
  works = c.in_ok-end_line.ensures.failed;
}

pub returns-clause-takes : goal.returns-clause-takes
returns-clause-takes g c = λ line kept.
    block_end c.args.stream.now.checker.now c.args.stream.now.file.now line c.args.lines.now c.ends.lines _
    c.args.block.now c.ends.rest.now _ _ _ c.ends.text.items (c.ends.invariant.takes line kept) (search rules) refl refl
    (λ m is. c.joined.ensures m (subst (λ o. IsKept o m) (sym c.take.ensures.value) is))
    (subst (Appends (g.W.Sink.contents c.ends.writer) (g.W.Sink.contents c.write_all.new.writer))
    c.deref.ensures.value c.in-Ok.ensures.ok)
