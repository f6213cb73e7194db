use Rattle.std.proofs.Common.{◌∙◌, ◌&&◌, ap, ap₂, arith, refl, sym}
use Rattle.jskw_array.specs.Words.{in_typed, keyword_holds, validator_keyword}
use Rattle.jskw_array.proofs.PassedItems.{passes_more, passes_none}
use Rattle.jskw_array.proofs.WalksOverParts.{own_holds}
use Rattle.jskw_array.proofs.accepted.first_outside.Goals as goal

pub loop-index-init : goal.loop-index-init
loop-index-init g c = record {
  last = c.item_count-count.ensures;
  passed = passes_none _ _ c.args.start;
  applied = refl;
}

pub loop-index-preserved : goal.loop-index-preserved
loop-index-preserved g c =
    let l = c.loop-index in
    let u = c.args.part.now in
    let t = g.F.Node.Rooted.tree c.item-item.result.now in
    let within = sym c.contains.ensures ∙ c.if-not-contains.false in
    let holds =
    sym (own_holds u c.keyword.result.now c.keyword.ensures t)
    ∙ ap (λ v. keyword_holds (validator_keyword v) t) c.in-Bare.is
    ∙ sym c.is_valid.ensures.answer ∙ c.if-not-is_valid.false in
    let counted = c.is_valid.ensures.counted in
    record {
      last = l.invariant.last;
      passed =
          passes_more (g.F.Node.Rooted.tree c.args.instance.now) c.args.start l.index t l.invariant.passed.from
          (omega arith) c.item-item.ensures.value (in_typed c.args.outline.now u) l.invariant.passed
          (ap₂ (λ a b. a && b) within holds);
      applied = omega (arith, counted.from, counted.to) ∙ l.invariant.applied;
    }
