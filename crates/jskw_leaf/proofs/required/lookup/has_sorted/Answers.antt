use Rattle.std.proofs.Common.{◌≡◌, ◌∙◌, false, subst, sym}
use Rattle.jskw_value.specs.Tree.{has_name}
use Rattle.jskw_leaf.proofs.FoundNames.{one_missing}
use Rattle.jskw_leaf.proofs.Lookups.{found_by_key}
use Rattle.jskw_leaf.proofs.required.lookup.has_sorted.Goals as goal

pub returns-then-is_none : goal.returns-then-is_none
returns-then-is_none g c =
    let t = g.F.Node.Rooted.tree c.args.object.now in
    let at = c.in-Some.ensures.lookup in
    sym (one_missing t c.args.table.now c.count_in_order-found.result c.in-Some.name.now at.3.0 at.1
    (subst (λ k. has_name t k ≡ false) c.as_str.ensures.value
    (sym (found_by_key _ _ _ t c.find.ensures.value) ∙ c.if-is_none.ensures)))
