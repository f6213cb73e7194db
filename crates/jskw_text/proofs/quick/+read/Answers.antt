use Rattle.std.proofs.Common.{◌≡◌, [], ◌∷◌, ◌++◌, map, string_bytes, refl, sym, ap, ◌∙◌}
use Rattle.std.proofs.Common.{subst, arith, length, ◌==◌}
use Rattle.std.proofs.lemmas.Bool.{true≢false}
use Rattle.std.proofs.lemmas.List.{map-append}
use Rattle.json.specs.Lex.{operator_lexeme}
use Rattle.json.specs.Word.{head}
use Rattle.jskw_value.specs.DecimalTree.{decimal_tree, items_from}
use Rattle.jskw_value.specs.Members.{lasts}
use Rattle.jskw_value.specs.Tree.{array, object, no_members}
use Rattle.jskw_value.proofs.DecimalTrees.{tree_of_array}
use Rattle.jskw_text.specs.Members.{members_seen}
use Rattle.jskw_text.specs.Passing.{Passes, PassesName, PassesUnwanted, ReadsWanted}
use Rattle.jskw_text.specs.Reading.{put}
use Rattle.jskw_text.specs.Wanted.{of_items, prune}
use Rattle.jskw_text.proofs.Members.{tree_of_members}
use Rattle.jskw_text.proofs.Passing.{read_behind, array_read, object_read, all_items_left, items_left}
use Rattle.jskw_text.proofs.Passing.{items_read, all_members_left, members_left, members_read, no_items_read}
use Rattle.jskw_text.proofs.Passing.{no_members_read}
use Rattle.jskw_text.proofs.Pruned.{AlikeMembers, ReadsMember, array_alike, if_taken, member_kept}
use Rattle.jskw_text.proofs.Pruned.{member_skipped, none_alike, object_alike}
use Rattle.jskw_text.proofs.Pruned.{one_more_alike, text_taken, leaf_taken, when_some, when_none}
use Rattle.jskw_text.proofs.quick.+read.Goals as goal
use Rattle.jskw_text.proofs.quick.+read.Goals.{read_members-in-Some+in_ok-value-in-Some+in_ok-in_order-in-Some}
use Rattle.jskw_text.proofs.quick.+read.Goals.{read_members-in-None+else-not-skips}

pub read-returns-in-34-clause-ok : goal.read-returns-in-34-clause-ok
read-returns-in-34-clause-ok t c =
    if_taken c.read_text.result (λ tree text.
    text_taken c.args.wanted.now c.args.has_text c.args.depth c.args.cursor.now c.skip_spaces.new.self
    (decimal_tree tree) c.read_text.new.cursor c.requires c.skip_spaces.ensures text) c.read_text.ensures

pub read-returns-in_default-clause-ok : goal.read-returns-in_default-clause-ok
read-returns-in_default-clause-ok t c =
    if_taken c.read_word.result (λ tree leaf.
    leaf_taken c.args.wanted.now c.args.depth c.args.cursor.now c.skip_spaces.new.self (decimal_tree tree)
    c.read_word.new.cursor c.skip_spaces.ensures leaf) c.read_word.ensures

pub read-returns-in_ok-read_items-in-91-clause-ok : goal.read-returns-in_ok-read_items-in-91-clause-ok
read-returns-in_ok-read_items-in-91-clause-ok t c =
    let depth = c.args.depth in
    let inner = c.skip_spaces.new.self in
    let opened = c.advance.new.self in
    let new = c.read_items.new.cursor in
    let v = c.in_ok-read_items-in-91.field-0 in
    let found = c.in_ok-read_items-in-91.ensures.ok in
    let bracket : head inner ≡ 91 = omega (arith, c.peek.ensures, c.in-91.is) in
    let opens = subst (λ x. Passes inner (operator_lexeme x ∷ []) opened) bracket c.advance.ensures in (
      array found.0,
      read_behind depth c.args.cursor.now inner (array found.0) new c.skip_spaces.ensures
          (array_read depth inner opened found.0 new (omega arith) opens found.1),
      ap (prune c.args.wanted.now) (tree_of_array v) ∙ found.2,
    )

pub read-returns-in_ok-read_members-in-123-clause-ok : goal.read-returns-in_ok-read_members-in-123-clause-ok
read-returns-in_ok-read_members-in-123-clause-ok t c =
    let depth = c.args.depth in
    let inner = c.skip_spaces.new.self in
    let opened = c.advance-in-123.new.self in
    let new = c.read_members.new.cursor in
    let ms = c.in_ok-read_members-in-123.field-0 in
    let found = c.in_ok-read_members-in-123.ensures.ok in
    let brace : head inner ≡ 123 = omega (arith, c.peek.ensures, c.in-123.is) in
    let opens = subst (λ x. Passes inner (operator_lexeme x ∷ []) opened) brace c.advance-in-123.ensures in (
      object found.0,
      read_behind depth c.args.cursor.now inner (object found.0) new c.skip_spaces.ensures
          (object_read depth inner opened found.0 new (omega arith) opens found.1),
      ap (prune c.args.wanted.now) (tree_of_members ms) ∙ found.2,
    )

pub read_items-returns-then-takes-clause-ok : goal.read_items-returns-then-takes-clause-ok
read_items-returns-then-takes-clause-ok t c = (
  items_from [],
  no_items_read c.args.depth c.args.cursor.now c.takes.new.self c.if-takes.ensures,
  ap (λ vs. prune c.args.wanted.now (array (items_from (map decimal_tree vs)))) c.new-then-takes.ensures.items,
)

pub read_items-items-init : goal.read_items-items-init
read_items-items-init t c = (
  [],
  all_items_left c.args.depth c.args.cursor.now _ c.if-takes.ensures,
  ap (λ vs. map (prune (of_items c.args.wanted.now)) (map decimal_tree vs)) c.in_ok-found.ensures,
)

pub read_items-items-preserved : goal.read_items-items-preserved
read_items-items-preserved t c =
    let w = c.args.wanted.now in
    let left = c.items.invariant in
    let taken = c.in_ok-item.ensures.ok in
    let found = c.items.found.items in
    let item = c.in_ok-item.item in (
      left.0 ++ taken.0 ∷ [],
      items_left c.args.depth c.args.cursor.now left.0 taken.0 _ c.read.new.cursor _ left.1 taken.1
          c.in_ok-item.ensures.shorter c.if-not-takes.ensures,
      ap (λ vs. map (prune (of_items c.args.wanted.now)) (map decimal_tree vs)) c.in_ok-push.ensures.items
          ∙ ap (map (prune (of_items c.args.wanted.now))) (map-append decimal_tree found (item ∷ []))
          ∙ one_more_alike w (map decimal_tree found) left.0 (decimal_tree item) taken.0 left.2
          (subst (λ ls. prune ls (decimal_tree item) ≡ prune ls taken.0) c.below-of_items.ensures taken.2),
    )

pub read_items-returns-clause-ok : goal.read_items-returns-clause-ok
read_items-returns-clause-ok t c =
    let w = c.args.wanted.now in
    let left = c.items.invariant in
    let taken = c.in_ok-item.ensures.ok in
    let found = c.items.found.items in
    let item = c.in_ok-item.item in
    let us = left.0 ++ taken.0 ∷ [] in (
      items_from us,
      items_read c.args.depth c.args.cursor.now left.0 taken.0 _ c.read.new.cursor _ left.1 taken.1
          (c.if-not-takes.ensures.lexed ∙ c.if-not-takes-2.ensures.lexed),
      array_alike w (map decimal_tree c.push.new.self.items) us
          (λ e. true≢false (sym (c.if-is_empty.ensures ∙ ap (λ ls. length ls == 0) e)))
          (ap (λ vs. map (prune (of_items c.args.wanted.now)) (map decimal_tree vs)) c.in_ok-push.ensures.items
          ∙ ap (map (prune (of_items c.args.wanted.now))) (map-append decimal_tree found (item ∷ []))
          ∙ one_more_alike w (map decimal_tree found) left.0 (decimal_tree item) taken.0 left.2
          (subst (λ ls. prune ls (decimal_tree item) ≡ prune ls taken.0) c.below-of_items.ensures taken.2)),
    )

pub read_members-returns-then-takes-clause-ok : goal.read_members-returns-then-takes-clause-ok
read_members-returns-then-takes-clause-ok t c = (
  no_members,
  no_members_read c.args.depth c.args.cursor.now c.takes.new.self c.if-takes.ensures,
  ap (λ ms. prune c.args.wanted.now (object (members_seen ms))) c.new-then-takes.ensures,
)

pub read_members-members-init : goal.read_members-members-init
read_members-members-init t c = (
  no_members,
  all_members_left c.args.depth c.args.cursor.now _ c.if-takes.ensures,
  subst (λ vs. AlikeMembers c.args.wanted.now (members_seen (lasts vs)) no_members) (sym c.in_ok-found.ensures)
      (none_alike c.args.wanted.now),
)

pub read_members-members-preserved : goal.read_members-members-preserved
read_members-members-preserved t c =
    let w = c.args.wanted.now in
    let depth = c.args.depth in
    let left = c.members.invariant in
    let found = members_seen (lasts c.members.found.items) in
    let more = members_seen (lasts c.match-branch-3.found.items) in
    let named = c.read_name.new.cursor in
    let inner = c.match-branch-3.cursor in
    let taken : ReadsMember w depth c.members.cursor more left.0 inner =
    elim c.match-branch-3.branch [
      | read_members-in-Some+in_ok-value-in-Some+in_ok-in_order-in-Some b ↦
          member_kept w depth c.members.cursor (string_bytes b.in-Some.name) named
          (decimal_tree b.in_ok-value-in-Some.value)
          b.read.new.cursor inner found more left.0 left.2
          (when_some (λ name. PassesName c.members.cursor (string_bytes name) named) c.in_ok-name.field-0 b.in-Some.name
          b.in-Some.is c.in_ok-name.ensures.wanted)
          (subst (λ ls. ReadsWanted ls depth named (decimal_tree b.in_ok-value-in-Some.value) b.read.new.cursor)
          c.of_values-of_value.ensures b.in_ok-value-in-Some.ensures.ok)
          b.in_ok-value-in-Some.ensures.shorter
          (ap (λ v. members_seen (lasts v.items)) b.found-is ∙ b.in_ok-in_order-in-Some.ensures) b.cursor-is
      | read_members-in-None+else-not-skips b ↦
          member_skipped w depth c.members.cursor named b.skips.new.self inner found more left.0 left.2
          (when_none (PassesUnwanted w c.members.cursor named) c.in_ok-name.field-0 b.in-None.is
          c.in_ok-name.ensures.unwanted) (b.if-not-skips.ensures.skipped refl) (b.if-not-skips.ensures.shorter refl)
          (ap (λ v. members_seen (lasts v.items)) b.found-is) b.cursor-is
    ] in (
      put taken.0 taken.2 left.0,
      members_left depth c.args.cursor.now left.0 c.members.cursor taken.0 taken.1 taken.2 inner _ left.1 taken.3
          taken.4 taken.5 c.if-not-takes.ensures,
      taken.6,
    )

pub read_members-returns-clause-ok : goal.read_members-returns-clause-ok
read_members-returns-clause-ok t c =
    let w = c.args.wanted.now in
    let depth = c.args.depth in
    let left = c.members.invariant in
    let found = members_seen (lasts c.members.found.items) in
    let more = members_seen (lasts c.match-branch-3.found.items) in
    let named = c.read_name.new.cursor in
    let inner = c.match-branch-3.cursor in
    let taken : ReadsMember w depth c.members.cursor more left.0 inner =
    elim c.match-branch-3.branch [
      | read_members-in-Some+in_ok-value-in-Some+in_ok-in_order-in-Some b ↦
          member_kept w depth c.members.cursor (string_bytes b.in-Some.name) named
          (decimal_tree b.in_ok-value-in-Some.value)
          b.read.new.cursor inner found more left.0 left.2
          (when_some (λ name. PassesName c.members.cursor (string_bytes name) named) c.in_ok-name.field-0 b.in-Some.name
          b.in-Some.is c.in_ok-name.ensures.wanted)
          (subst (λ ls. ReadsWanted ls depth named (decimal_tree b.in_ok-value-in-Some.value) b.read.new.cursor)
          c.of_values-of_value.ensures b.in_ok-value-in-Some.ensures.ok)
          b.in_ok-value-in-Some.ensures.shorter
          (ap (λ v. members_seen (lasts v.items)) b.found-is ∙ b.in_ok-in_order-in-Some.ensures) b.cursor-is
      | read_members-in-None+else-not-skips b ↦
          member_skipped w depth c.members.cursor named b.skips.new.self inner found more left.0 left.2
          (when_none (PassesUnwanted w c.members.cursor named) c.in_ok-name.field-0 b.in-None.is
          c.in_ok-name.ensures.unwanted) (b.if-not-skips.ensures.skipped refl) (b.if-not-skips.ensures.shorter refl)
          (ap (λ v. members_seen (lasts v.items)) b.found-is) b.cursor-is
    ] in
    let us = put taken.0 taken.2 left.0 in (
      us,
      members_read depth c.args.cursor.now left.0 c.members.cursor taken.0 taken.1 taken.2 inner _ left.1 taken.3
          taken.4 (c.if-not-takes.ensures.lexed ∙ c.if-not-takes-2.ensures.lexed),
      ap (λ ms. prune w (object (members_seen ms))) c.in_ok-from_last_pairs.ensures ∙ object_alike w more us taken.6,
    )
