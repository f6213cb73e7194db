use Rattle.std.proofs.Common.{◌∙◌, sym, arith}
use Rattle.jskw_array.proofs.AcceptedValues.{accepted_end, accepted_next}
use Rattle.jskw_array.proofs.WalksOverParts.{own_holds}
use Rattle.jskw_array.proofs.accepted.quick_set_of.Goals as goal

pub loop-part-preserved : goal.loop-part-preserved
loop-part-preserved g c =
    let l = c.loop-part in
    let u = c.part-item.result in
    accepted_next c.args.parts.now l.accepted c.quick_set.result c.and-accepted.result l.part-index u
    c.loop-part-test.true c.part-item.is l.invariant
    (λ t h. sym (own_holds u c.keyword.result.now c.keyword.ensures t) ∙ c.quick_set.ensures t h)
    c.and-accepted.ensures

pub returns : goal.returns
returns g c = let l = c.loop-part in accepted_end c.args.parts.now l.accepted l.part-index (omega arith) l.invariant
