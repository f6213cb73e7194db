use Rattle.std.proofs.Common.{ℕ, sum_by, subst, sym}
use Rattle.jskw_array.specs.Words.{CountsBetween, PassesOver, in_arrays, items_between, items_cost}
use Rattle.jskw_array.proofs.AcceptedArrays.{lists_counted}
use Rattle.jskw_array.proofs.accepted.ItemSets.skip.Goals as goal
use Rattle.jskw_array.proofs.accepted.ItemSets.skip.Goals.{then-is_some, else-is_some}

pub returns-clause-counted : goal.returns-clause-counted
returns-clause-counted g c =
    let a = c.args.self.now in
    let t = g.N.Rooted.tree c.args.instance.now in
    let start = c.args.start in
    let end = c.if-is_some.end in
    let first = c.count_more.ensures in
    let second = c.count_more-2.ensures in
    let Passed : ℕ × ℕ → Type 0 = λ r. PassesOver (in_arrays a) t start r.0 in
    let Counted : ℕ × ℕ → Type 0 =
    λ r. CountsBetween 0 r.1 (sum_by (items_cost a) (items_between start r.0 t))
    (sum_by (items_cost a) (items_between start r.0 t)) in
    let both : Passed end × Counted end =
    elim c.if-is_some.branch [
      | then-is_some w ↦ (
        subst Passed (sym w.end-is) w.first_outside.ensures.passed,
        subst Counted (sym w.end-is) w.first_outside.ensures.counted,
      )
      | else-is_some w ↦ (
        subst Passed (sym w.end-is) w.first_outside-else-is_some.ensures.passed,
        subst Counted (sym w.end-is) w.first_outside-else-is_some.ensures.counted,
      )
    ] in
    lists_counted a t start end.0 end.1 both.0 both.1 (record { applied = first.applied; counted = first.counted })
    (record { applied = second.applied; counted = second.counted })
