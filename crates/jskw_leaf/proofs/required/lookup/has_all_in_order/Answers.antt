use Rattle.std.proofs.Common.{◌≡◌, IfSome, subst}
use Rattle.jskw_leaf.proofs.FoundNames.{all_in_table}
use Rattle.jskw_leaf.proofs.required.lookup.has_all_in_order.Goals as goal

pub returns-in-Some : goal.returns-in-Some
returns-in-Some g c =
    let t = g.F.Node.Rooted.tree c.args.object.now in
    subst (λ b. IfSome c.has_sorted.result (λ answer. answer ≡ b))
    (all_in_table t (g.L.Names.names c.args.names.now) c.in-Some.table.now c.in-Some.ensures) c.has_sorted.ensures
