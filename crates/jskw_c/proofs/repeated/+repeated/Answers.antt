use Rattle.std.proofs.Common.{◌∙◌, ◌≡◌, ◌+◌, ◌-◌, ◌<◌, ◌∷◌, not, true, false, drop, take, length, subst, sym, ap}
use Rattle.std.proofs.Common.{arith, rules}
use Rattle.std.proofs.lemmas.List.{drop_more, take_rest}
use Rattle.json.specs.Tree.{json_tokens, items_tokens, members_tokens}
use Rattle.json.specs.Value.{value_view, items_view, members_view}
use Rattle.json.proofs.Trees.{item_smaller, member_smaller}
use Rattle.jskw_c.specs.Names.{HasNamesAnd}
use Rattle.jskw_c.specs.Repeated.{has_member_named}
use Rattle.jskw_c.proofs.Joined.{goes_on}
use Rattle.jskw_c.proofs.repeated.+repeated.Goals as goal
use Rattle.jskw_c.proofs.repeated.+repeated.Goals.{push_in_members-then-branch+in_ok-push_in_value}
use Rattle.jskw_c.proofs.repeated.+repeated.Goals.{push_in_members-else-branch+in_ok-push_reason}

pub push_in_items-push_in_value-requires : goal.push_in_items-push_in_value-requires
push_in_items-push_in_value-requires t c =
    let items = c.args.items.now in
    let item = c.index-items-index.result in
    let below : length (json_tokens (value_view item)) < length (items_tokens (items_view items)) =
    subst (λ v. length (json_tokens (value_view v)) < length (items_tokens (items_view items)))
    (sym c.index-items-index.is) (item_smaller items c.loop-index.index item (omega arith)) in
    search (rules, below)

pub push_in_members-push_in_value-requires : goal.push_in_members-push_in_value-requires
push_in_members-push_in_value-requires t c =
    let members = c.args.members.now in
    let member = c.index-members-index.result in
    let below : length (json_tokens (value_view member.1)) < length (members_tokens (members_view members)) =
    subst (λ m. length (json_tokens (value_view m.1)) < length (members_tokens (members_view members)))
    (sym c.index-members-index.is)
    (member_smaller members (length members - 1 - c.loop-step.step) member (omega arith)) in
    search (rules, below)

pub push_in_members-loop-step-preserved : goal.push_in_members-loop-step-preserved
push_in_members-loop-step-preserved t c =
    let l = c.loop-step in
    let xs = c.args.members.now in
    let x = c.index-members-index.result in
    let i = length xs - 1 - l.step in
    let here : drop (length xs - (l.step + 1)) xs ≡ x ∷ drop (length xs - l.step) xs =
    ap (λ k. drop k xs) (omega arith) ∙ (drop_more xs i x (omega arith)
    ∙ (ap (λ y. y ∷ drop (i + 1) xs) (sym c.index-members-index.is) ∙ ap (λ k. x ∷ drop k xs) (omega arith))) in
    let behind : take (length xs - (i + 1)) (drop (i + 1) xs) ≡ drop (length xs - l.step) xs =
    take_rest xs (i + 1) ∙ ap (λ k. drop k xs) (omega arith) in
    let rest = members_view (drop (length xs - l.step) xs) in
    let added = c.in_ok-add_name.ensures in
    let last : c.in_ok-add_name.field-0 ≡ not (has_member_named x.0.now rest) = rw behind at added.added in
    let names : HasNamesAnd c.add_name.new.seen x.0.now rest = rw behind at added.names in
    let goes =
    goes_on c.args.text.now.items l.text.items c.if-branch.text.items c.args.at.now x.0.now (value_view x.1) rest in
    elim c.if-branch.branch [
      | push_in_members-then-branch+in_ok-push_in_value w ↦
          let said = rw (w.as_str.ensures.value, c.in_ok-below.ensures) at w.in_ok-push_in_value.ensures in
          rw here (
            goes true l.invariant.0 (sym w.if-branch.true ∙ last) (ap (λ v. v.items) w.text-is ∙ said),
            names,
          )
      | push_in_members-else-branch+in_ok-push_reason w ↦
          let said = rw (w.as_str-else-branch.ensures.value, c.in_ok-below.ensures) at w.in_ok-push_reason.ensures in
          rw here (
            goes false l.invariant.0 (sym w.if-branch.false ∙ last) (ap (λ v. v.items) w.text-is ∙ said),
            names,
          )
    ]
