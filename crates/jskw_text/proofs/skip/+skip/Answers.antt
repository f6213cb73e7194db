use Rattle.std.proofs.Common.{◌≡◌, ◌+◌, ◌-◌, ◌<◌, [], IfSome, drop, get_or, length, refl}
use Rattle.std.proofs.Common.{ap, subst, arith, rules, length-drop}
use Rattle.json.specs.Lex.{between, lex}
use Rattle.jskw_value.specs.Tree.{array, object, string, no_items, no_members}
use Rattle.jskw_text.specs.Passing.{PassesByte, Skips, SkipsItems, SkipsLeaf, SkipsMembers, SkipsText, Spans}
use Rattle.jskw_text.specs.Reading.{put}
use Rattle.jskw_text.proofs.Lexemes.{if_some}
use Rattle.jskw_text.proofs.Passing.{leaf_read, text_read, array_read, object_read, all_items_left, items_left}
use Rattle.jskw_text.proofs.Passing.{items_read, all_members_left, members_left, members_read, no_items_read}
use Rattle.jskw_text.proofs.Passing.{no_members_read}
use Rattle.jskw_text.proofs.Spans.{operator_at, span_shorter, spaces_between, value_behind}
use Rattle.jskw_text.proofs.skip.+skip.Goals as goal

pub skip-returns-in-Some : goal.skip-returns-in-Some
skip-returns-in-Some t c =
    let d = c.args.text.now in
    let from = c.args.from in
    let end = c.in-Some.end in
    let leaf = subst (λ s. Spans SkipsLeaf s from end) c.as_bytes.ensures.value c.in-Some.ensures in
    (leaf.0, leaf.1, (leaf.2.0, leaf_read c.args.depth (drop from d) leaf.2.0 (drop end d) leaf.2.1))

pub skip-returns-in-34 : goal.skip-returns-in-34
skip-returns-in-34 t c =
    let d = c.args.text.now in
    let from = c.args.from in
    let at = c.behind_spaces-at.result in
    let same = c.as_bytes-2.ensures.value in
    let e = subst (λ s. lex between (drop from s) ≡ lex between (drop at s)) same c.behind_spaces-at.ensures.lexed in
    if_some (Spans SkipsText d at) (Spans (Skips c.args.depth) d from) c.skip_text.result
    (λ end s. value_behind c.args.depth d from at e c.behind_spaces-at.ensures.bounds.0 end
    (s.0, s.1, (string s.2.0, text_read c.args.depth (drop at d) s.2.0 (drop end d) s.2.1))) c.skip_text.ensures

pub skip-returns-in_default-byte_at : goal.skip-returns-in_default-byte_at
skip-returns-in_default-byte_at t c =
    let d = c.args.text.now in
    let from = c.args.from in
    let at = c.behind_spaces-at.result in
    let same = c.as_bytes-2.ensures.value in
    let e = subst (λ s. lex between (drop from s) ≡ lex between (drop at s)) same c.behind_spaces-at.ensures.lexed in
    if_some (Spans SkipsLeaf d at) (Spans (Skips c.args.depth) d from) c.skip_word.result
    (λ end s. value_behind c.args.depth d from at e c.behind_spaces-at.ensures.bounds.0 end
    (s.0, s.1, (s.2.0, leaf_read c.args.depth (drop at d) s.2.0 (drop end d) s.2.1))) c.skip_word.ensures

pub skip-returns-else-depth-eq0 : goal.skip-returns-else-depth-eq0
skip-returns-else-depth-eq0 t c =
    let d = c.args.text.now in
    let from = c.args.from in
    let at = c.behind_spaces-at.result in
    let same = c.as_bytes-2.ensures.value in
    let e = subst (λ s. lex between (drop from s) ≡ lex between (drop at s)) same c.behind_spaces-at.ensures.lexed in
    let is : get_or d at 32 ≡ 91 =
    omega (arith, c.byte_at.ensures.value, c.in-91.is, ap (λ s. get_or s at 32) c.as_bytes-3.ensures.value) in
    if_some (Spans (SkipsItems (c.args.depth - 1)) d (at + 1)) (Spans (Skips c.args.depth) d from) c.skip_items.result
    (λ end s. value_behind c.args.depth d from at e c.behind_spaces-at.ensures.bounds.0 end (
      omega (arith, s.0),
      s.1,
      (
        array s.2.0,
        array_read c.args.depth (drop at d) (drop (at + 1) d) s.2.0 (drop end d) (omega arith)
            (operator_at d at 91 is refl) s.2.1,
      ),
    )) c.skip_items.ensures

pub skip-returns-else-depth-eq0-2 : goal.skip-returns-else-depth-eq0-2
skip-returns-else-depth-eq0-2 t c =
    let d = c.args.text.now in
    let from = c.args.from in
    let at = c.behind_spaces-at.result in
    let same = c.as_bytes-2.ensures.value in
    let e = subst (λ s. lex between (drop from s) ≡ lex between (drop at s)) same c.behind_spaces-at.ensures.lexed in
    let is : get_or d at 32 ≡ 123 =
    omega (arith, c.byte_at.ensures.value, c.in-123.is, ap (λ s. get_or s at 32) c.as_bytes-3.ensures.value) in
    if_some (Spans (SkipsMembers (c.args.depth - 1)) d (at + 1)) (Spans (Skips c.args.depth) d from)
    c.skip_members.result
    (λ end s. value_behind c.args.depth d from at e c.behind_spaces-at.ensures.bounds.0 end (
      omega (arith, s.0),
      s.1,
      (
        object s.2.0,
        object_read c.args.depth (drop at d) (drop (at + 1) d) s.2.0 (drop end d) (omega arith)
            (operator_at d at 123 is refl) s.2.1,
      ),
    )) c.skip_members.ensures

pub skip_items-returns-in-Some : goal.skip_items-returns-in-Some
skip_items-returns-in-Some t c =
    let d = c.args.text.now in
    let from = c.args.from in
    let end = c.in-Some.end in
    let closes = subst (λ s. Spans (PassesByte 93) s from end) c.as_bytes.ensures.value c.in-Some.ensures in
    (closes.0, closes.1, (no_items, no_items_read c.args.depth (drop from d) (drop end d) closes.2))

pub skip_items-items-init : goal.skip_items-items-init
skip_items-items-init t c =
    let d = c.args.text.now in
    let from = c.args.from in (
      omega arith,
      search rules,
      ([], all_items_left c.args.depth (drop from d) (drop from d) (spaces_between d from from refl (omega arith))),
    )

pub skip_items-returns-in_default-behind_byte : goal.skip_items-returns-in_default-behind_byte
skip_items-returns-in_default-behind_byte t c =
    let d = c.args.text.now in
    let from = c.args.from in
    let at = c.items.at in
    let end = c.in_ok-end.end in
    let read = c.in_ok-end.ensures in
    let left = c.items.invariant.2 in
    let result = c.behind_byte-in_default-behind_byte.result in
    if_some (Spans (PassesByte 93) d end) (Spans (SkipsItems c.args.depth) d from) result
    (λ to closes. (
      omega (arith, c.items.invariant.0, read.0, closes.0),
      closes.1,
      (
        _,
        items_read c.args.depth (drop from d) left.0 read.2.0 (drop at d) (drop end d) (drop to d) left.1 read.2.1
            closes.2.lexed,
      ),
    ))
    (subst (λ s. IfSome result (Spans (PassesByte 93) s end)) c.as_bytes-in_default-behind_byte.ensures.value
    c.behind_byte-in_default-behind_byte.ensures)

pub skip_items-items-smaller : goal.skip_items-items-smaller
skip_items-items-smaller t c =
    let d = c.args.text.now in
    let from = c.args.from in
    let at = c.items.at in
    let end = c.in_ok-end.end in
    let read = c.in_ok-end.ensures in
    let next = c.in-Some-behind_byte.next in
    let comma =
    subst (λ s. Spans (PassesByte 44) s end next) c.as_bytes-in-items.ensures.value c.in-Some-behind_byte.ensures in
    let fewer : length d - next < length d - at =
    omega (arith, read.0, comma.1, comma.2.shorter, length-drop end d, length-drop next d) in
    fewer

pub skip_items-items-preserved : goal.skip_items-items-preserved
skip_items-items-preserved t c =
    let d = c.args.text.now in
    let from = c.args.from in
    let at = c.items.at in
    let end = c.in_ok-end.end in
    let read = c.in_ok-end.ensures in
    let left = c.items.invariant.2 in
    let next = c.in-Some-behind_byte.next in
    let comma =
    subst (λ s. Spans (PassesByte 44) s end next) c.as_bytes-in-items.ensures.value c.in-Some-behind_byte.ensures in (
      omega (arith, c.items.invariant.0, read.0, comma.0),
      comma.1,
      (
        _,
        items_left c.args.depth (drop from d) left.0 read.2.0 (drop at d) (drop end d) (drop next d) left.1 read.2.1
            (span_shorter d at end read.0) comma.2,
      ),
    )

pub skip_members-returns-in-Some : goal.skip_members-returns-in-Some
skip_members-returns-in-Some t c =
    let d = c.args.text.now in
    let from = c.args.from in
    let end = c.in-Some.end in
    let closes = subst (λ s. Spans (PassesByte 125) s from end) c.as_bytes.ensures.value c.in-Some.ensures in
    (closes.0, closes.1, (no_members, no_members_read c.args.depth (drop from d) (drop end d) closes.2))

pub skip_members-members-init : goal.skip_members-members-init
skip_members-members-init t c =
    let d = c.args.text.now in
    let from = c.args.from in (
      omega arith,
      search rules,
      (
        no_members,
        all_members_left c.args.depth (drop from d) (drop from d) (spaces_between d from from refl (omega arith)),
      ),
    )

pub skip_members-returns-in_default-behind_byte : goal.skip_members-returns-in_default-behind_byte
skip_members-returns-in_default-behind_byte t c =
    let d = c.args.text.now in
    let from = c.args.from in
    let at = c.members.at in
    let end = c.in_ok-end.end in
    let name = c.in_ok-value.ensures in
    let value = c.in_ok-value.value in
    let read = c.in_ok-end.ensures in
    let left = c.members.invariant.2 in
    let result = c.behind_byte-in_default-behind_byte.result in
    if_some (Spans (PassesByte 125) d end) (Spans (SkipsMembers c.args.depth) d from) result
    (λ to closes. (
      omega (arith, c.members.invariant.0, name.0, read.0, closes.0),
      closes.1,
      (
        put name.2.0 read.2.0 left.0,
        members_read c.args.depth (drop from d) left.0 (drop at d) name.2.0 (drop value d) read.2.0 (drop end d)
            (drop to d) left.1 name.2.1 read.2.1 closes.2.lexed,
      ),
    ))
    (subst (λ s. IfSome result (Spans (PassesByte 125) s end)) c.as_bytes-in_default-behind_byte.ensures.value
    c.behind_byte-in_default-behind_byte.ensures)

pub skip_members-members-smaller : goal.skip_members-members-smaller
skip_members-members-smaller t c =
    let d = c.args.text.now in
    let from = c.args.from in
    let at = c.members.at in
    let end = c.in_ok-end.end in
    let name = c.in_ok-value.ensures in
    let value = c.in_ok-value.value in
    let read = c.in_ok-end.ensures in
    let next = c.in-Some-behind_byte.next in
    let comma =
    subst (λ s. Spans (PassesByte 44) s end next) c.as_bytes-in-members.ensures.value c.in-Some-behind_byte.ensures in
    let fewer : length d - next < length d - at =
    omega (arith, name.0, read.0, comma.1, comma.2.shorter, length-drop end d, length-drop next d) in
    fewer

pub skip_members-members-preserved : goal.skip_members-members-preserved
skip_members-members-preserved t c =
    let d = c.args.text.now in
    let from = c.args.from in
    let at = c.members.at in
    let end = c.in_ok-end.end in
    let name = c.in_ok-value.ensures in
    let value = c.in_ok-value.value in
    let read = c.in_ok-end.ensures in
    let left = c.members.invariant.2 in
    let next = c.in-Some-behind_byte.next in
    let comma =
    subst (λ s. Spans (PassesByte 44) s end next) c.as_bytes-in-members.ensures.value c.in-Some-behind_byte.ensures in (
      omega (arith, c.members.invariant.0, name.0, read.0, comma.0),
      comma.1,
      (
        put name.2.0 read.2.0 left.0,
        members_left c.args.depth (drop from d) left.0 (drop at d) name.2.0 (drop value d) read.2.0 (drop end d)
            (drop next d) left.1 name.2.1 read.2.1 (span_shorter d value end read.0) comma.2,
      ),
    )
