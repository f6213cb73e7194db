use Rattle.std.proofs.Common.{◌≡◌, ◌∙◌, ap, arith, subst, sym, string_bytes, true}
use Rattle.std.proofs.lemmas.Bool.{and_parts}
use Rattle.std.proofs.lemmas.Slice.Eq.{bytes_eq-Decides}
use Rattle.std.specs.List.{list_all}
use Rattle.std.specs.Map.{keys_of}
use Rattle.jskw_value.specs.Tree.{has_name}
use Rattle.jskw_leaf.proofs.FoundNames.{one_more}
use Rattle.jskw_leaf.proofs.required.lookup.count_in_order.Goals as goal

pub loop-name-preserved-then-is_same_name : goal.loop-name-preserved-then-is_same_name
loop-name-preserved-then-is_same_name g c =
    let t = g.F.Node.Rooted.tree c.args.object.now in
    let invariant = c.loop-name.invariant in
    let members = and_parts _ _ (sym (ap (λ ms. list_all (has_name t) (keys_of ms)) c.in-Some.ensures.steps)
    ∙ invariant.1) in
    let next = c.in-Some-get.next.now in
    let has : has_name t (string_bytes next) ≡ true = subst (λ k. has_name t k ≡ true)
    ((bytes_eq-Decides _ _).0 (sym c.is_same_name.ensures ∙ c.if-is_same_name.true) ∙ c.as_str.ensures.value)
    members.0 in
    let at = c.in-Some-get.ensures.lookup in
    (omega (arith, at.3.0), members.1, one_more t c.args.table.now c.loop-name.found next at.3.0 at.1 has invariant.2)
