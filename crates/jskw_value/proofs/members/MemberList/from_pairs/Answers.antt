use Rattle.std.proofs.Common.{rules, refl, string_bytes}
use Rattle.std.proofs.lemmas.Cmp.{nat_list_cmp_total}
use Rattle.std.proofs.lemmas.List.Sorted.{IsPermutation-sym, answers_always, ranks_by}
use Rattle.jskw_value.proofs.MembersInOrder.{distinct_moved, distinct_sorted, not_distinct}
use Rattle.jskw_value.proofs.members.MemberList.from_pairs.Goals as goal

pub returns-in-Some-clause-repeated : goal.returns-in-Some-clause-repeated
returns-in-Some-clause-repeated g c = rw c.deref.ensures.value at c.in-Some.ensures.repeated
    (c.sort_unstable_by.ensures.sorted _ (ranks_by nat_list_cmp_total (λ m. string_bytes m.name))
    (answers_always _ _ _ (λ f a r q called. search rules)))

pub returns-in-Some-clause-sorted : goal.returns-in-Some-clause-sorted
returns-in-Some-clause-sorted g c =
    c.sort_unstable_by.ensures.sorted _ (ranks_by nat_list_cmp_total (λ m. string_bytes m.name))
    (answers_always _ _ _ (λ f a r q called. search rules))

pub returns-in-Some-clause-distinct : goal.returns-in-Some-clause-distinct
returns-in-Some-clause-distinct g c = (
  λ e. cc,
  λ d. absurd (not_distinct _ _ (rw c.deref.ensures.value at c.in-Some.ensures.repeated
      (c.sort_unstable_by.ensures.sorted _ (ranks_by nat_list_cmp_total (λ m. string_bytes m.name))
      (answers_always _ _ _ (λ f a r q called. search rules))))
      (distinct_moved _ _ c.sort_unstable_by.ensures.permutation d)),
)

pub returns-in-None-clause-distinct : goal.returns-in-None-clause-distinct
returns-in-None-clause-distinct g c = (
  λ e. distinct_moved _ _ (IsPermutation-sym _ _ c.sort_unstable_by.ensures.permutation)
      (distinct_sorted _ (rw c.deref.ensures.value at c.in-None.ensures.rising)),
  λ d. refl,
)
