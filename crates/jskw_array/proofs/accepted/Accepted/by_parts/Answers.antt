use Rattle.std.proofs.Common.{◌≡◌, ◌+◌, ◌≤◌, true, sym, subst}
use Rattle.std.proofs.lemmas.List.{take_rest}
use Rattle.jskw_array.specs.Words.{ArraysAreValid, IfSome, Tree, all_hold, all_needed, arrays_cost, in_arrays}
use Rattle.jskw_array.specs.Words.{in_outline, keywords_of}
use Rattle.jskw_array.proofs.AcceptedArrays.{all_known}
use Rattle.jskw_array.proofs.accepted.Accepted.by_parts.Goals as goal
use Rattle.jskw_array.proofs.accepted.Accepted.by_parts.Goals.{in-Some+in_ok-new-in-Some, in-None}

pub returns : goal.returns
returns g c =
    let us = c.args.parts.now in
    let b = c.settled_parts-settled.result in
    let found = c.in_ok-sets.field-0 in
    let known =
    all_known us b found c.settled_parts-settled.ensures
    (subst (λ xs. IfSome found (λ a. (t : Tree) → in_arrays a t ≡ true → (in_outline b.outline t ≡ true)
    × (all_hold (keywords_of xs) t ≡ true) × (arrays_cost a t ≤ 1 + all_needed (keywords_of xs) t)))
    (take_rest us b.count) c.in_ok-sets.ensures) in
    record {
      values = c.quick_set_of.ensures;
      settled = c.settled_parts-settled.ensures;
      arrays = elim c.match-branch-2.branch [
        | in-Some+in_ok-new-in-Some w ↦
            subst (λ o. IfSome o (λ x. ArraysAreValid us x.value)) (sym w.arrays-is)
            (subst (ArraysAreValid us) (sym w.in_ok-new-in-Some.ensures.ok)
            (subst (λ o. IfSome o (ArraysAreValid us)) w.in-Some.is known))
        | in-None w ↦ subst (λ o. IfSome o (λ x. ArraysAreValid us x.value)) (sym w.arrays-is) tt
      ];
    }
