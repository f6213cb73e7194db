use Rattle.std.proofs.Common.{Some, ap, subst, sym, ◌∙◌}
use Rattle.jskw_value.specs.Members.{member_names, AreSorted}
use Rattle.jskw_value.proofs.MembersInOrder.{get_at, get_in_gap}
use Rattle.jskw_value.proofs.members.MemberList.get_by_halves.Goals as goal

pub returns-in-Ok : goal.returns-in-Ok
returns-in-Ok g c =
    let sorted = subst (λ ms. AreSorted (member_names ms)) c.self.view_is c.self.invariant in
    sym (get_at _ _ _ c.index.result.now sorted c.in-Ok.ensures.found
    ∙ sym (rw c.self.view_is at (ap (λ m. Some m.value) c.index.ensures)))

pub returns-in-Err : goal.returns-in-Err
returns-in-Err g c = sym (get_in_gap _ _ _ c.in-Err.ensures.absent)
