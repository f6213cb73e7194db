use Rattle.std.proofs.Common.{sym, subst}
use Rattle.jskw_value.specs.Members.{member_names, AreSorted}
use Rattle.jskw_value.proofs.MembersInOrder.{named_at, named_in_gap, inserted_at, sorted_inserted}
use Rattle.jskw_value.proofs.members.MemberList.insert.Goals as goal

pub returns-in-Ok-clause-repeated : goal.returns-in-Ok-clause-repeated
returns-in-Ok-clause-repeated g c =
    sym (named_at _ _ _ (subst (λ ms. AreSorted (member_names ms)) c.self.view_is c.self.invariant)
    (rw c.as_str.ensures.value at c.in-Ok.ensures.found))

pub returns-in-Err-insert-clause-repeated : goal.returns-in-Err-insert-clause-repeated
returns-in-Err-insert-clause-repeated g c =
    sym (named_in_gap _ _ _ (rw c.as_str.ensures.value at c.in-Err.ensures.absent))

pub invariant_of-self-2 : goal.invariant_of-self-2
invariant_of-self-2 g c =
    rw c.in_default.ensures.items
    (sorted_inserted _ _ _ (rw c.self.view_is (rw c.as_str.ensures.value at c.in-Err.ensures.absent)) c.self.invariant)

pub returns-clause-added : goal.returns-clause-added
returns-clause-added g c =
    rw (c.in_default.ensures.items, c.self.view_is)
    (sym (inserted_at _ _ _ (rw c.as_str.ensures.value at c.in-Err.ensures.absent)))

pub returns-clause-absent : goal.returns-clause-absent
returns-clause-absent g c = named_in_gap _ _ _ (rw c.as_str.ensures.value at c.in-Err.ensures.absent)
