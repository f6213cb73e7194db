use Rattle.std.proofs.Common.{subst}
use Rattle.jskw_array.specs.Words.{Appends, fail, path_of}
use Rattle.jskw_array.proofs.ObserversAgree.{agreed}
use Rattle.jskw_array.proofs.laws.observers_agree.Goals as goal

pub returns-clause-appended : goal.returns-clause-appended
returns-clause-appended g c =
    let tree = g.F.Node.Rooted.tree in
    let s = c.args.node.now in
    let t = tree c.args.instance.now in
    subst (λ q. Appends tree c.args.errors.now.items c.collect_errors-all.new.errors.items (fail s t (path_of q))
    c.collect_errors-all.result) c.validate-first.ensures.location c.collect_errors-all.ensures.appended

pub returns-clause-agree : goal.returns-clause-agree
returns-clause-agree g c =
    let tree = g.F.Node.Rooted.tree in
    let s = c.args.node.now in
    let t = tree c.args.instance.now in
    let appended =
    subst (λ q. Appends tree c.args.errors.now.items c.collect_errors-all.new.errors.items (fail s t (path_of q))
    c.collect_errors-all.result) c.validate-first.ensures.location c.collect_errors-all.ensures.appended in
    agreed tree s t (path_of c.args.location.now) _ _ _ _ _ c.is_valid-is_valid.ensures.answer
    c.validate-first.ensures.first appended
