use Rattle.std.proofs.Common.{◌≡◌, ◌∙◌, ap, arith, sym, string_bytes, true, false}
use Rattle.std.specs.Str.{bytes_eq}
use Rattle.jskw_value.specs.Members.{value_named}
use Rattle.jskw_value.proofs.MembersInOrder.{found_behind, found_here}
use Rattle.jskw_value.proofs.members.MemberList.get.Goals as goal

pub returns-then-is_same_name : goal.returns-then-is_same_name
returns-then-is_same_name g c =
    let same : bytes_eq c.args.name.now (string_bytes c.member-item.result.name) ≡ true =
    ap (bytes_eq c.args.name.now) (sym c.as_str.ensures.value) ∙ sym c.is_same_name.ensures
    ∙ c.if-is_same_name.true in
    let here =
    found_here c.args.name.now _ c.loop-member.member-index c.member-item.result
    (omega (arith, c.loop-member-test.true)) c.member-item.is same in
    sym here ∙ c.loop-member.invariant
    ∙ ap (value_named c.args.name.now) (c.deref-member-items.ensures.value ∙ c.self.view_is)

pub loop-member-preserved : goal.loop-member-preserved
loop-member-preserved g c =
    let other : bytes_eq c.args.name.now (string_bytes c.member-item.result.name) ≡ false =
    ap (bytes_eq c.args.name.now) (sym c.as_str.ensures.value) ∙ sym c.is_same_name.ensures
    ∙ c.if-is_same_name.false in
    found_behind c.args.name.now _ c.loop-member.member-index c.member-item.result
    (omega (arith, c.loop-member-test.true)) c.member-item.is other
    ∙ c.loop-member.invariant
