use Rattle.std.proofs.Common.{rules}
use Rattle.std.proofs.lemmas.Fn.{always_returns_same}
use Rattle.jskw_value.specs.Members.{against}
use Rattle.jskw_value.proofs.MembersInOrder.{searched}
use Rattle.jskw_value.proofs.members.MemberList.search.Goals as goal

pub returns : goal.returns
returns g c =
    let ends = c.binary_search_by.ensures in
    let by_name =
    ends.position (against c.args.name.now)
    (always_returns_same _ _ _ (λ a r f called. (search rules, search rules))) in
    rw (← c.self.view_is, ← c.deref.ensures.value)
    (searched c.args.name.now _ _ (rw c.deref.ensures.value c.self.invariant) ends.bound by_name)
