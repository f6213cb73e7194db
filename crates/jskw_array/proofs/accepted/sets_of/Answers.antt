use Rattle.std.proofs.Common.{◌∙◌, [], ◌∷◌, ◌++◌, take, subst, sym, ap, arith}
use Rattle.std.proofs.lemmas.List.{take_all, take_more}
use Rattle.jskw_array.specs.Words.{SetsAccept}
use Rattle.jskw_array.proofs.AcceptedArrays.{accept_more}
use Rattle.jskw_array.proofs.accepted.sets_of.Goals as goal

pub loop-node-init : goal.loop-node-init
loop-node-init g c = subst (λ qs. SetsAccept qs []) (sym c.in_ok-sets.ensures.items) tt

pub loop-node-preserved : goal.loop-node-preserved
loop-node-preserved g c =
    let l = c.loop-node in
    let ss = c.args.nodes.now in
    let s = c.node-item.result in
    let before = take l.node-index ss in
    let after =
    take_more ss l.node-index s c.loop-node-test.true ∙ ap (λ x. before ++ x ∷ []) (sym c.node-item.is) in
    subst (SetsAccept c.push.new.self.items) (sym after)
    (subst (λ qs. SetsAccept qs (before ++ s ∷ [])) (sym c.in_ok-push.ensures.items)
    (accept_more l.sets.items before c.values.result s l.invariant c.values.ensures))

pub returns : goal.returns
returns g c =
    let l = c.loop-node in
    subst (SetsAccept l.sets.items) (take_all l.node-index c.args.nodes.now (omega arith)) l.invariant
