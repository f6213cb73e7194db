use Rattle.std.proofs.Common.{false, sym, ap, option_map, ◌≡◌, ◌∙◌}
use Rattle.std.specs.Option.{option_map_or}
use Rattle.serde_json.specs.Events.{members_len}
use Rattle.serde_json.specs.View.{members_view, view}
use Rattle.jskw_report.specs.Sibling.{is_inlined_type, is_only_type}
use Rattle.serde_json.proofs.Views.{members_len-members_view, view-Object}
use Rattle.jskw_leaf.proofs.BareTypes.{many_members, only_type_at}
use Rattle.jskw_leaf.proofs.in_place.bare.is_only_type.Goals as goal

pub returns-then-len-ne1 : goal.returns-then-len-ne1
returns-then-len-ne1 c =
    let m = c.in-Object.members in
    let one =
    λ (e : members_len (members_view m.entries) ≡ 1). c.if-len-ne1.true
    (c.len.ensures.len ∙ sym (members_len-members_view m.entries) ∙ e) in
    sym (ap (λ v. is_only_type (view v)) c.in-Object.is ∙ ap is_only_type (view-Object m)
    ∙ many_members (members_view m.entries) one)

pub returns-in-Some : goal.returns-in-Some
returns-in-Some c =
    let m = c.in-Object.members in
    let one = members_len-members_view m.entries ∙ sym c.len.ensures.len ∙ c.if-len-ne1.false in
    let found = sym c.member_of.ensures ∙ ap (option_map (λ x. view x.now)) c.in-Some.is in
    c.is_inlined_type.ensures
    ∙ sym (ap (λ v. is_only_type (view v)) c.in-Object.is ∙ ap is_only_type (view-Object m)
    ∙ only_type_at (members_view m.entries) one
    ∙ ap (λ o. option_map_or is_inlined_type o false) found)

pub returns-in-None : goal.returns-in-None
returns-in-None c =
    let m = c.in-Object.members in
    let one = members_len-members_view m.entries ∙ sym c.len.ensures.len ∙ c.if-len-ne1.false in
    let found = sym c.member_of.ensures ∙ ap (option_map (λ x. view x.now)) c.in-None.is in
    sym (ap (λ v. is_only_type (view v)) c.in-Object.is ∙ ap is_only_type (view-Object m)
    ∙ only_type_at (members_view m.entries) one
    ∙ ap (λ o. option_map_or is_inlined_type o false) found)
