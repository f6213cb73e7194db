use Rattle.std.proofs.Common.{◌∙◌, sym, true≢false}
use Rattle.jskw_documents.proofs.Feeds.{in_line_next}
use Rattle.jskw_documents.proofs.lines.has_line_feed.Goals as goal
use Rattle.jskw_documents.proofs.lines.has_line_feed.Goals.{else-byte-eq10, then-byte-eq10}

pub loop-byte-preserved : goal.loop-byte-preserved
loop-byte-preserved c =
    elim c.if-byte-eq10.branch [
      | then-byte-eq10 w ↦ λ none. absurd (true≢false (sym w.found-is ∙ none))
      | else-byte-eq10 w ↦ λ none.
          in_line_next c.args.block.now c.loop-byte.byte-index c.loop-byte-test.true
          (c.loop-byte.invariant (sym w.found-is ∙ none)) w.if-byte-eq10.false
    ]
