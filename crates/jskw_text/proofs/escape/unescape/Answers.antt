use Rattle.std.proofs.Common.{◌≡◌, ℕ, List, ◌⊎◌, inl, inr, ◌+◌, ◌-◌, ◌<◌, ◌≤◌, ◌++◌, drop, get_or, take, length}
use Rattle.std.proofs.Common.{string_bytes, sym, ap, ◌∙◌, subst, arith}
use Rattle.std.proofs.lemmas.List.{append-nil, get_or_default, get_or_past}
use Rattle.std.proofs.lemmas.Str.{IsCharBoundary-before_ascii, IsCharBoundary-after_ascii}
use Rattle.std.proofs.Common.{lt_of_not-le, Some}
use Rattle.std.specs.Str.{IsCharBoundary}
use Rattle.std.specs.Char.{encode_utf8}
use Rattle.std.specs.List.{prefix_len}
use Rattle.json.specs.Run.{is_plain}
use Rattle.json.specs.Text.{content, plain, prepend}
use Rattle.jskw_text.proofs.Contents.{content-to_stop, prepend-prepend, at_quote, at_backslash}
use Rattle.jskw_text.proofs.Escapes.{lexed_to_stop, quote_passed, backslash_passed}
use Rattle.jskw_text.proofs.escape.unescape.Goals as goal

-- a character begins at a quote or a backslash
at_visible : (d : List ℕ) (i x : ℕ) → x ≡ get_or d i 32 → 32 < x → x < 128 → IsCharBoundary d i
at_visible d i x is visible ascii =
    let inside : i < length d = lt_of_not-le (λ h. omega (arith, get_or_past d i 32 h)) in
    IsCharBoundary-before_ascii d i inside (omega (arith, get_or_default d i 0 32 inside))

at_quote_or_backslash : (d : List ℕ) (i x : ℕ) → x ≡ get_or d i 32 → ((x ≡ 34 → ⊥) × (x ≡ 92)) ⊎ (x ≡ 34)
    → IsCharBoundary d i
at_quote_or_backslash d i x is (inl e) = at_visible d i x is (omega (arith, e.1)) (omega (arith, e.1))
at_quote_or_backslash d i x is (inr e) = at_visible d i x is (omega arith) (omega arith)

pub range-requires-clause-end_boundary : goal.range-requires-clause-end_boundary
range-requires-clause-end_boundary c =
    let d = c.args.text.now in
    let stop = c.plain_end-stop.result in
    let same : c.byte_at-byte.result ≡ get_or d stop 32 =
    c.byte_at-byte.ensures.value ∙ ap (λ t. get_or t stop 32) c.as_bytes-bytes.ensures.value in
    at_quote_or_backslash d stop c.byte_at-byte.result same c.else-byte-ne34.either

pub returns-then-byte-eq34 : goal.returns-then-byte-eq34
returns-then-byte-eq34 c =
    let d = c.args.text.now in
    let l = c.runs in
    let stop = c.plain_end-stop.result in
    let same = c.as_bytes-bytes.ensures.value in
    let is : stop ≡ l.at + prefix_len is_plain (drop l.at d) = rw (← same) c.plain_end-stop.ensures.value in
    let closing : get_or d stop 32 ≡ 34 =
    omega (arith, c.byte_at-byte.ensures.value, ap (λ t. get_or t stop 32) same) in
    let inside : stop < length d = lt_of_not-le (λ h. omega (arith, get_or_past d stop 32 h)) in
    let quote : get_or d stop 0 ≡ 34 = get_or_default d stop 0 32 inside ∙ closing in
    let so_far = l.invariant.0 ∙ ap (prepend _) (content-to_stop d l.at stop is) ∙ prepend-prepend _ _ _ in
    let pushed : string_bytes c.push_str.new.self ≡ string_bytes l.content ++ take (stop - l.at) (drop l.at d) =
    c.in_ok-push_str.ensures.bytes ∙ ap (λ t. string_bytes l.content ++ t) c.range.ensures.value in
    record {
      content_is = so_far ∙ ap (prepend _) (at_quote d stop inside quote) ∙ ap Some (append-nil _ ∙ sym pushed);
      lexed = l.invariant.1 ∙ lexed_to_stop d l.at stop is ∙ quote_passed d stop inside quote;
      bounds = (omega (arith, is, l.invariant.3), inside);
    }

pub runs-preserved : goal.runs-preserved
runs-preserved c =
    let d = c.args.text.now in
    let l = c.runs in
    let stop = c.plain_end-stop.result in
    let next = c.in-Some.next in
    let same = c.as_bytes-bytes.ensures.value in
    let is : stop ≡ l.at + prefix_len is_plain (drop l.at d) = rw (← same) c.plain_end-stop.ensures.value in
    let byte : get_or d stop 32 ≡ 92 = omega (arith, c.byte_at-byte.ensures.value, ap (λ t. get_or t stop 32) same) in
    let inside : stop < length d = lt_of_not-le (λ h. omega (arith, get_or_past d stop 32 h)) in
    let slash : get_or d stop 0 ≡ 92 = get_or_default d stop 0 32 inside ∙ byte in
    let so_far = l.invariant.0 ∙ ap (prepend _) (content-to_stop d l.at stop is) ∙ prepend-prepend _ _ _ in
    let e = c.in-Some.ensures in
    let pushed = c.in_ok-push_str.ensures.bytes ∙ ap (λ t. string_bytes l.content ++ t) c.range.ensures.value in
    let all = c.in_ok-push.ensures.bytes ∙ ap (λ t. t ++ encode_utf8 c.in-Some.character) pushed in
    let escape : content plain (drop stop d) ≡ prepend (encode_utf8 c.in-Some.character) (content plain (drop next d)) =
    at_backslash d stop inside slash ∙ rw (← same) e.content_is in
    let bound : next ≤ length d = rw (← same) e.bound in
    let ascii : get_or d (next - 1) 0 < 128 = rw (← same) e.ascii in
    let whole : next - 1 + 1 ≡ next = omega (arith, e.forward) in (
      so_far ∙ ap (prepend _) escape ∙ prepend-prepend _ _ _
          ∙ ap (λ s. prepend s (content plain (drop next d))) (sym all),
      l.invariant.1 ∙ lexed_to_stop d l.at stop is ∙ backslash_passed d stop inside slash ∙ rw (← same) e.lexed,
      subst (IsCharBoundary d) whole (IsCharBoundary-after_ascii d (next - 1) c.utf8.text (omega (arith, bound)) ascii),
      omega (arith, is, l.invariant.3, e.forward),
    )
