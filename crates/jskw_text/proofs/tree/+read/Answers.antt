use Rattle.std.proofs.Common.{◌≡◌, suc, ◌-◌, ◌<◌, [], ◌∷◌, length, map, Some, None, Ok, Err, string_bytes, refl, sym}
use Rattle.std.proofs.Common.{ap, ◌∙◌, arith, rules}
use Rattle.json.specs.Token.{Token}
use Rattle.json.specs.Json.{parse_map, after_end_array, read_key, items, members, value}
use Rattle.json.specs.Reads.{token_of}
use Rattle.json.proofs.Grammar.{value_is, read_key-shorter}
use Rattle.jskw_value.specs.DecimalTree.{decimal_tree}
use Rattle.jskw_value.specs.Decimal.{value as number_value}
use Rattle.jskw_value.specs.Tree.{number, array, object}
use Rattle.jskw_value.specs.declared.decimal_tree.DecimalTree.{Number, the_lemmas}
use Rattle.jskw_value.proofs.DecimalTrees.{tree_of_array}
use Rattle.jskw_value.specs.Members.{lasts}
use Rattle.jskw_text.specs.Members.{members_seen}
use Rattle.jskw_text.specs.Stop.{location_of}
use Rattle.jskw_text.specs.declared.fault.Stop.TheVariants.{Broken}
use Rattle.jskw_text.specs.Reading.{on_found, put, tree_of, items_of, members_of}
use Rattle.jskw_text.proofs.Members.{tree_of_members, last_seen}
use Rattle.jskw_text.proofs.Reading.{returned, length-append_one, leaf_value, array_value, object_value}
use Rattle.jskw_text.proofs.Reading.{array_too_deep, object_too_deep, found_behind, stopped_behind, explained}
use Rattle.jskw_text.proofs.Reading.{item_read}
use Rattle.jskw_text.proofs.Reading.{item_faulty, items_over, member_read, member_faulty, key_refused, members_over}
use Rattle.jskw_text.proofs.Reading.{items_before, items_before-no_items, one_more_item}
use Rattle.jskw_text.proofs.tree.+read.Goals as goal

pub read-returns-in_err-token-clause-err : goal.read-returns-in_err-token-clause-err
read-returns-in_err-token-clause-err t c =
    let empty : c.args.reader.now ≡ [] = grind arith in
    let is : c.from_residual.result ≡ Err Broken = search rules in
    returned _ Broken _ _ is (ap (parse_map tree_of) (ap (value c.args.depth) empty ∙ value_is c.args.depth [])) refl

pub read-returns-then-depth-eq0-clause-err : goal.read-returns-then-depth-eq0-clause-err
read-returns-then-depth-eq0-clause-err t c =
    array_too_deep c.args.depth _ c.next.new.self (grind arith) (omega arith)

pub read-returns-then-depth-eq0-2-clause-err : goal.read-returns-then-depth-eq0-2-clause-err
read-returns-then-depth-eq0-2-clause-err t c =
    object_too_deep c.args.depth _ c.next.new.self (grind arith) (omega arith)

pub read-returns-in_err-read_items-in-BeginArray-clause-err
    : goal.read-returns-in_err-read_items-in-BeginArray-clause-err
read-returns-in_err-read_items-in-BeginArray-clause-err t c =
    let opened = array_value c.args.depth c.args.reader.now c.next.new.self (grind arith) (omega arith) in
    stopped_behind array _ _ _ _ opened (search rules) c.in_err-read_items-in-BeginArray.ensures.err

pub read-returns-in_err-read_members-in-BeginObject-clause-err
    : goal.read-returns-in_err-read_members-in-BeginObject-clause-err
read-returns-in_err-read_members-in-BeginObject-clause-err t c =
    let opened = object_value c.args.depth c.args.reader.now c.next.new.self (grind arith) (omega arith) in
    stopped_behind object _ _ _ _ opened (search rules) c.in_err-read_members-in-BeginObject.ensures.err

pub read-returns-in_ok-from_str-in-String-clause-ok : goal.read-returns-in_ok-from_str-in-String-clause-ok
read-returns-in_ok-from_str-in-String-clause-ok t c =
    leaf_value c.args.depth _ (Token.string c.in-String.text.now) _ _ (grind arith) (search (rules, the_lemmas))

pub read-returns-in-Bool-clause-ok : goal.read-returns-in-Bool-clause-ok
read-returns-in-Bool-clause-ok t c =
    leaf_value c.args.depth _ (Token.boolean c.in-Bool.boolean) _ _ (grind arith) (search (rules, the_lemmas))

pub read-returns-in-Null-clause-ok : goal.read-returns-in-Null-clause-ok
read-returns-in-Null-clause-ok t c =
    leaf_value c.args.depth _ Token.null _ _ (grind arith) (search (rules, the_lemmas))

pub read-returns-in-Some-clause-ok : goal.read-returns-in-Some-clause-ok
read-returns-in-Some-clause-ok t c =
    let seen : decimal_tree (Number c.in-Some.decimal) ≡ number (number_value c.in-Some.decimal) =
    search (rules, the_lemmas) in
    leaf_value c.args.depth _ (Token.number c.in-Number.text.now) _ _ (grind arith) (rw (← c.in-Some.ensures, seen))

pub read-returns-in-None-clause-err : goal.read-returns-in-None-clause-err
read-returns-in-None-clause-err t c =
    let first : c.args.reader.now ≡ token_of c.in_ok-token.token ∷ c.next.new.self = grind arith in
    let is : c.args.reader.now ≡ Token.number c.in-Number.text.now ∷ c.next.new.self = grind (arith, first) in
    let read : parse_map tree_of (value c.args.depth c.args.reader.now) ≡ Some (Err [], c.next.new.self) =
    ap (parse_map tree_of) (ap (value c.args.depth) is ∙ value_is c.args.depth _) ∙ rw (← c.in-None.ensures) in
    let empty : c.new.result.items ≡ [] = search rules in
    rw read (ap (λ ss. Err (location_of (map string_bytes ss))) (sym empty))

pub read-returns-in-EndObject-clause-err : goal.read-returns-in-EndObject-clause-err
read-returns-in-EndObject-clause-err t c =
    let first : c.args.reader.now ≡ token_of c.in_ok-token.token ∷ c.next.new.self = grind arith in
    let none : value c.args.depth c.args.reader.now ≡ None =
    rw (value_is c.args.depth c.args.reader.now, first) (grind arith) in
    ap (parse_map tree_of) none

pub read-returns-in_ok-read_items-in-BeginArray-clause-ok : goal.read-returns-in_ok-read_items-in-BeginArray-clause-ok
read-returns-in_ok-read_items-in-BeginArray-clause-ok t c =
    let opened = array_value c.args.depth c.args.reader.now c.next.new.self (grind arith) (omega arith) in
    found_behind array _ _ _ _ _ opened c.in_ok-read_items-in-BeginArray.ensures.ok (tree_of_array _)

pub read-returns-in_ok-read_members-in-BeginObject-clause-ok
    : goal.read-returns-in_ok-read_members-in-BeginObject-clause-ok
read-returns-in_ok-read_members-in-BeginObject-clause-ok t c =
    let opened = object_value c.args.depth c.args.reader.now c.next.new.self (grind arith) (omega arith) in
    found_behind object _ _ _ _ _ opened c.in_ok-read_members-in-BeginObject.ensures.ok (tree_of_members _)

pub read_items-returns-in-Err-clause-err : goal.read_items-returns-in-Err-clause-err
read_items-returns-in-Err-clause-err t c =
    let l = c.items in
    let going : (after_end_array l.reader ≡ None) × (c.take_end_array.new.self ≡ l.reader) = grind arith in
    let place : c.len.result ≡ length l.found.items = search rules in
    rw l.invariant.2 (explained (items_before l.found.items) c.in_item.result _
    (item_faulty (value c.args.depth) (length l.found.items) l.invariant.0 l.reader c.in-Err.stop c.in_item.result
    going.0 (rw (← going.1) c.in-Err.ensures.err) (rw (← place) c.in_item.ensures)))

pub read_items-items-preserved : goal.read_items-items-preserved
read_items-items-preserved t c =
    let p = value c.args.depth in
    let l = c.items in
    let n = l.invariant.0 in
    let going : (after_end_array l.reader ≡ None) × (c.take_end_array.new.self ≡ l.reader) = grind arith in
    let done = c.in-Ok.ensures in
    let v = c.in-Ok.item in
    let r = c.read.new.reader in
    let less : length r < length l.reader = rw (← going.1) done.shorter in
    let turn =
    item_read p (length l.found.items) n l.reader r (decimal_tree v) (omega (arith, l.invariant.1)) going.0
    (rw (← going.1) done.ok) in
    let longer : length c.push.new.self.items ≡ suc (length l.found.items) =
    ap length c.in_ok-push.ensures.items ∙ length-append_one l.found.items v in (
      n - 1,
      omega (arith, l.invariant.1),
      l.invariant.2 ∙ ap (parse_map (on_found (items_before l.found.items))) turn ∙ one_more_item l.found.items v _
          ∙ ap (λ vs. parse_map (on_found (items_before vs))
          (parse_map (items_of (suc (length l.found.items))) (items p (n - 1) r))) (sym c.in_ok-push.ensures.items)
          ∙ ap (λ i. parse_map (on_found (items_before c.push.new.self.items))
          (parse_map (items_of i) (items p (n - 1) r))) (sym longer),
      omega (arith, l.invariant.3),
    )

pub read_items-returns-clause-ok : goal.read_items-returns-clause-ok
read_items-returns-clause-ok t c =
    let p = value c.args.depth in
    let l = c.items in
    let n = l.invariant.0 in
    let r = c.take_end_array.new.self in
    l.invariant.2 ∙ ap (parse_map (on_found (items_before l.found.items)))
    (items_over p (length l.found.items) n l.reader r l.invariant.1 (grind arith))
    ∙ ap (λ ds. Some (Ok ds, r)) (items_before-no_items l.found.items)

pub read_members-returns-in_err-name-clause-err : goal.read_members-returns-in_err-name-clause-err
read_members-returns-in_err-name-clause-err t c =
    let l = c.members in
    let is : c.from_residual.result ≡ Err Broken = search rules in
    returned _ Broken _ _ is (l.invariant.2 ∙ key_refused (value c.args.depth) (members_seen (lasts l.found.items))
    l.invariant.0 l.reader c.in_err-name.ensures.value) refl

pub read_members-returns-in-Err-clause-err : goal.read_members-returns-in-Err-clause-err
read_members-returns-in-Err-clause-err t c =
    let l = c.members in
    let place : c.as_str.result.now ≡ c.in-Some.name.now = search rules in
    rw l.invariant.2 (member_faulty (value c.args.depth) (members_seen (lasts l.found.items)) l.invariant.0
    c.in-Some.name.now l.reader c.next_key.new.self c.in-Err.stop c.in_member.result (grind arith) c.in-Err.ensures.err
    (rw (← place) c.in_member.ensures))

pub read_members-members-preserved : goal.read_members-members-preserved
read_members-members-preserved t c =
    let p = value c.args.depth in
    let l = c.members in
    let n = l.invariant.0 in
    let old = members_seen (lasts l.found.items) in
    let k = c.in-Some.name.now in
    let s = c.next_key.new.self in
    let named : read_key l.reader ≡ Some (Some k, s) = grind arith in
    let done = c.in-Ok.ensures in
    let v = c.in-Ok.value in
    let r = c.read.new.reader in
    let less = read_key-shorter l.reader (Some k) s named in
    let lesser = done.shorter in
    let copied : string_bytes c.in_ok-key.key ≡ k = search rules in
    let one_more : members_seen (lasts c.push.new.self.items) ≡ put k (decimal_tree v) old =
    ap (λ ms. members_seen (lasts ms)) c.in_ok-push.ensures.items ∙ last_seen l.found.items _
    ∙ ap (λ name. put name (decimal_tree v) old) copied in (
      n - 1,
      omega (arith, l.invariant.1),
      l.invariant.2 ∙ member_read p old n k l.reader s r (decimal_tree v) (omega (arith, l.invariant.1)) named done.ok
          ∙ ap (λ found. parse_map (members_of found) (members p (n - 1) r)) (sym one_more),
      omega (arith, l.invariant.3),
    )

pub read_members-members-init : goal.read_members-members-init
read_members-members-init t c =
    let r = c.args.reader.now in (
      length r,
      omega arith,
      ap
          (λ ms. parse_map (members_of (members_seen (lasts ms))) (members (value c.args.depth) (length r) r))
          (sym c.new-found.ensures.items),
      omega arith,
    )

pub read_members-returns-clause-ok : goal.read_members-returns-clause-ok
read_members-returns-clause-ok t c =
    let p = value c.args.depth in
    let l = c.members in
    let r = c.next_key.new.self in
    l.invariant.2
    ∙ members_over p (members_seen (lasts l.found.items)) l.invariant.0 l.reader r l.invariant.1 (grind arith)
    ∙ ap (λ ms. Some (Ok (members_seen ms), r)) (sym c.in_ok-from_last_pairs.ensures)
