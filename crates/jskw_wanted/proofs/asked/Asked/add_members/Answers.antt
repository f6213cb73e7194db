use Rattle.std.proofs.Common.{subst}
use Rattle.serde_json.specs.View.{members_view, view}
use Rattle.jskw_wanted.specs.Asked.{AsksNamed}
use Rattle.jskw_wanted.proofs.Growth.{further, next_member}
use Rattle.jskw_wanted.proofs.asked.Asked.add_members.Goals as goal

pub loop-name-preserved : goal.loop-name-preserved
loop-name-preserved c =
    let old = c.loop-name.self in
    let new = c.add_member.new.self in
    let grows = c.in_ok-add_member.ensures.grows in
    let asks = subst (λ k. AsksNamed new k (view c.in-Some.value.now)) c.as_str.ensures.value
    c.in_ok-add_member.ensures.asks in (
      further c.args.self.now old new c.loop-name.invariant.0 grows,
      next_member old new (members_view c.args.members.now.entries) _ _ (members_view c.next.new.self)
          (rw c.in-Some.ensures.steps at c.loop-name.invariant.1) grows asks,
    )
