use Rattle.std.proofs.Common.{◌∙◌, sym, arith}
use Rattle.jskw_array.specs.Words.{items}
use Rattle.jskw_array.proofs.AcceptedArrays.{in_sets_end, in_sets_next}
use Rattle.jskw_array.proofs.accepted.ItemSets.front_count.Goals as goal

pub loop-index-preserved : goal.loop-index-preserved
loop-index-preserved g c =
    let l = c.loop-index in
    record {
      last = l.invariant.last;
      in_front =
          in_sets_next c.args.self.now.front.items (items (g.N.Rooted.tree c.args.instance.now)) l.index _ _
          (omega arith) (omega arith) c.index.ensures c.item.ensures.value l.invariant.in_front
          (sym c.contains.ensures ∙ c.if-not-contains.false);
    }

pub returns : goal.returns
returns g c =
    let l = c.loop-index in (
      in_sets_end c.args.self.now.front.items (items (g.N.Rooted.tree c.args.instance.now)) l.index (omega arith)
          l.invariant.in_front,
      omega arith,
    )
