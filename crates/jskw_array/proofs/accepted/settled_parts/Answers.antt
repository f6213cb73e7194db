use Rattle.std.proofs.Common.{◌≡◌, ◌∙◌, get_or, subst, sym, arith}
use Rattle.jskw_array.proofs.PartsLeft.{begun_next}
use Rattle.jskw_array.proofs.WalksOverParts.{own_holds}
use Rattle.jskw_array.proofs.accepted.settled_parts.Goals as goal

pub loop-part-preserved : goal.loop-part-preserved
loop-part-preserved g c =
    let l = c.loop-part in
    let us = c.args.parts.now in
    let u = c.part-item.result in
    let is = subst (λ i. u ≡ get_or us i u) (sym l.invariant.count) c.part-item.is in
    let within = c.loop-part-test.true in
    record {
      begins = (
        omega (arith, l.invariant.count, within),
        begun_next us l.settled.count u l.settled.outline c.outline.result c.and-outline.result
            (omega (arith, l.invariant.count, within)) is l.invariant.begins.1
            (λ t h. sym (own_holds u c.keyword.result.now c.keyword.ensures t) ∙ c.outline.ensures t h)
            c.and-outline.ensures,
      );
      count = omega (arith, l.invariant.count);
    }
