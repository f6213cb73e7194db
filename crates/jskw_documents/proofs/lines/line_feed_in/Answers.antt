use Rattle.std.proofs.Common.{arith}
use Rattle.jskw_documents.proofs.Feeds.{in_line_next}
use Rattle.jskw_documents.proofs.lines.line_feed_in.Goals as goal

pub bytes-preserved : goal.bytes-preserved
bytes-preserved c = record {
  within = omega arith;
  inside =
      in_line_next c.args.bytes.now c.bytes.at c.bytes-test.true c.bytes.invariant.inside c.if-bytes-at-eq10.false;
}
