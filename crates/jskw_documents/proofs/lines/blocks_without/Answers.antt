use Rattle.std.proofs.Common.{arith}
use Rattle.jskw_documents.proofs.Feeds.{in_line_stride}
use Rattle.jskw_documents.proofs.lines.blocks_without.Goals as goal

pub strides-preserved : goal.strides-preserved
strides-preserved c = record {
  whole = omega arith;
  within = omega arith;
  inside =
      in_line_stride c.args.bytes.now c.strides.at 32 _ (omega arith) c.strides.invariant.inside
      (c.has_line_feed.ensures c.if-has_line_feed.false);
}
