-- What an escape stands for, and what is lexed of it.
use Rattle.std.proofs.Common.{◌≡◌, ℕ, suc, ◌+◌, ◌-◌, ◌*◌, ◌<◌, ◌≤◌, Bool, true, false, cond, ◌||◌, ◌==◌, List, [], ◌∷◌}
use Rattle.std.proofs.Common.{length, drop, get_or, Some, refl, sym, ap, ◌∙◌, subst, arith, drop-drop}
use Rattle.std.proofs.lemmas.Bool.{ne_eqb, or_parts, not-true, eqb-false, lt-ltb}
use Rattle.std.proofs.lemmas.List.{drop_more}
use Rattle.std.specs.Char.{digit_value, encode_utf8}
use Rattle.std.specs.List.{prefix_len}
use Rattle.jskw_text.proofs.Contents.{content-after_backslash, content-after_u, content-after_high}
use Rattle.json.specs.Lex.{Lexeme, Mode, lex, lex_byte, between, in_string, in_escape, operator, space, other}
use Rattle.json.specs.Run.{is_plain}
use Rattle.json.specs.Text.{code_unit, after_backslash, after_u, after_high, short_escape}
use Rattle.json.specs.Text.{surrogate_pair, is_high_surrogate, is_low_surrogate}
use Rattle.json.specs.Word.{is_operator, is_space}
use Rattle.jskw_text.specs.Escapes.{Escape, IsUnit}

-- ---- passing over bytes within a string

stays_inside : (o s : Bool) (x : ℕ) (r : List ℕ) (k : Mode → List Lexeme)
    → lex_byte in_string (cond o operator (cond s space other)) x r k ≡ k in_string
stays_inside true s x r k = refl
stays_inside false true x r k = refl
stays_inside false false x r k = refl

inner_byte : (x : ℕ) (xs : List ℕ) → (x ≡ 34 → ⊥) → (x ≡ 92 → ⊥) → lex in_string (x ∷ xs) ≡ lex in_string xs
unfolding lex
inner_byte x xs q b =
    rw (ne_eqb x 34 q, ne_eqb x 92 b) (stays_inside (is_operator x) (is_space x) x xs (λ m. lex m xs))

run_byte : (p : Bool) (x n : ℕ) (xs : List ℕ) → p ≡ is_plain x → lex in_string xs ≡ lex in_string (drop n xs)
    → lex in_string (x ∷ xs) ≡ lex in_string (drop (cond p (1 + n) 0) (x ∷ xs))
run_byte false x n xs e ih = refl
run_byte true x n xs e ih =
    let next : suc n ≡ 1 + n = omega arith in
    let none = or_parts ((x == 34) || (x == 92)) _ (not-true _ (sym e)) in
    let tests = or_parts (x == 34) _ none.0 in
    inner_byte x xs (eqb-false x 34 tests.0) (eqb-false x 92 tests.1) ∙ ih
    ∙ ap (λ k. lex in_string (drop k (x ∷ xs))) next

run_passed : (xs : List ℕ) → lex in_string xs ≡ lex in_string (drop (prefix_len is_plain xs) xs)
run_passed [] = refl
run_passed (x ∷ xs) = run_byte (is_plain x) x (prefix_len is_plain xs) xs refl (run_passed xs)

-- plain bytes are passed over
pub lexed_to_stop : (d : List ℕ) (i stop : ℕ) → stop ≡ i + prefix_len is_plain (drop i d)
    → lex in_string (drop i d) ≡ lex in_string (drop stop d)
lexed_to_stop d i stop is =
    run_passed (drop i d) ∙ ap (lex in_string) (drop-drop _ i d ∙ ap (λ k. drop k d) (sym is))

pub quote_passed : (d : List ℕ) (i : ℕ) → i < length d → get_or d i 0 ≡ 34
    → lex in_string (drop i d) ≡ lex between (drop (i + 1) d)
unfolding lex
quote_passed d i h e = ap (lex in_string) (drop_more d i 0 h ∙ ap (λ x. x ∷ drop (i + 1) d) e)

pub backslash_passed : (d : List ℕ) (i : ℕ) → i < length d → get_or d i 0 ≡ 92
    → lex in_string (drop i d) ≡ lex in_escape (drop (i + 1) d)
unfolding lex
backslash_passed d i h e = ap (lex in_string) (drop_more d i 0 h ∙ ap (λ x. x ∷ drop (i + 1) d) e)

escaped_passed : (d : List ℕ) (i : ℕ) → i < length d → lex in_escape (drop i d) ≡ lex in_string (drop (i + 1) d)
unfolding lex
escaped_passed d i h = ap (lex in_escape) (drop_more d i 0 h)

-- no digit is a quote or a backslash
digit_passed : (d : List ℕ) (i : ℕ) → i < length d → digit_value (get_or d i 0) < 16
    → lex in_string (drop i d) ≡ lex in_string (drop (i + 1) d)
digit_passed d i h small =
    let x = get_or d i 0 in
    let quote : x ≡ 34 → ⊥ = λ e. let no : 36 < 16 = subst (λ y. digit_value y < 16) e small in omega arith in
    let backslash : x ≡ 92 → ⊥ = λ e. let no : 36 < 16 = subst (λ y. digit_value y < 16) e small in omega arith in
    ap (lex in_string) (drop_more d i 0 h) ∙ inner_byte x (drop (i + 1) d) quote backslash

-- ---- four hex digits

module _ (d : List ℕ) (i : ℕ) (room : i + 4 ≤ length d) (first : digit_value (get_or d i 0) < 16)
    (second : digit_value (get_or d (i + 1) 0) < 16) (third : digit_value (get_or d (i + 2) 0) < 16)
    (fourth : digit_value (get_or d (i + 3) 0) < 16) where
  unit_lexed : lex in_string (drop i d) ≡ lex in_string (drop (i + 4) d)
  unit_lexed =
      let next : (j k : ℕ) → j + 1 ≡ k → lex in_string (drop (j + 1) d) ≡ lex in_string (drop k d) =
      λ j k e. ap (λ n. lex in_string (drop n d)) e in
      digit_passed d i (omega arith) first
      ∙ digit_passed d (i + 1) (omega arith) second ∙ next (i + 1) (i + 2) (omega arith)
      ∙ digit_passed d (i + 2) (omega arith) third ∙ next (i + 2) (i + 3) (omega arith)
      ∙ digit_passed d (i + 3) (omega arith) fourth ∙ next (i + 3) (i + 4) (omega arith)

  unit_value : code_unit (get_or d i 0) (get_or d (i + 1) 0) (get_or d (i + 2) 0) (get_or d (i + 3) 0)
      ≡ Some (digit_value (get_or d i 0) * 4096 + digit_value (get_or d (i + 1) 0) * 256
      + digit_value (get_or d (i + 2) 0) * 16 + digit_value (get_or d (i + 3) 0))
  unfolding code_unit
  unit_value =
      rw (lt-ltb _ 16 first, lt-ltb _ 16 second, lt-ltb _ 16 third, lt-ltb _ 16 fourth) refl

  pub unit_read : get_or d (i + 3) 0 < 128
      → IsUnit d i (digit_value (get_or d i 0) * 4096 + digit_value (get_or d (i + 1) 0) * 256
      + digit_value (get_or d (i + 2) 0) * 16 + digit_value (get_or d (i + 3) 0))
  unit_read low = record {
    within = room;
    value = unit_value;
    small = omega arith;
    lexed = unit_lexed;
    ascii = low;
  }

-- ---- escapes

pub unicode_read : (d : List ℕ) (i u : ℕ) → IsUnit d i u → is_high_surrogate u ≡ false → is_low_surrogate u ≡ false
    → Escape in_string after_u d i (u, i + 4)
unicode_read d i u is high low = record {
  content_is = content-after_u d i is.within ∙ rw (is.value, high, low) refl;
  lexed = is.lexed;
  forward = omega arith;
  bound = is.within;
  ascii = let last : i + 4 - 1 ≡ i + 3 = omega arith in rw last is.ascii;
}

pub high_read : (d : List ℕ) (i u : ℕ) (p : ℕ × ℕ) → IsUnit d i u → is_high_surrogate u ≡ true
    → Escape in_string (after_high u) d (i + 4) p → Escape in_string after_u d i p
high_read d i u p is high e = record {
  content_is = content-after_u d i is.within ∙ rw (is.value, high) e.content_is;
  lexed = is.lexed ∙ e.lexed;
  forward = omega (arith, e.forward);
  bound = e.bound;
  ascii = e.ascii;
}

pub low_read : (d : List ℕ) (i high low : ℕ) → get_or d i 0 ≡ 92 → get_or d (i + 1) 0 ≡ 117 → IsUnit d (i + 2) low
    → is_low_surrogate low ≡ true → Escape in_string (after_high high) d i (surrogate_pair high low, i + 6)
low_read d i high low backslash letter is small =
    let six : i + 2 + 4 ≡ i + 6 = omega arith in
    let two : i + 1 + 1 ≡ i + 2 = omega arith in
    let last : i + 6 - 1 ≡ i + 2 + 3 = omega arith in
    record {
      content_is = content-after_high d i high (omega (arith, is.within))
          ∙ rw (backslash, letter, is.value, small) refl;
      lexed = backslash_passed d i (omega (arith, is.within)) backslash
          ∙ escaped_passed d (i + 1) (omega (arith, is.within)) ∙ ap (λ n. lex in_string (drop n d)) two ∙ is.lexed
          ∙ ap (λ n. lex in_string (drop n d)) six;
      forward = omega arith;
      bound = omega (arith, is.within);
      ascii = rw last is.ascii;
    }

pub letter_read : (d : List ℕ) (i : ℕ) (p : ℕ × ℕ) → i < length d → get_or d i 0 ≡ 117
    → Escape in_string after_u d (i + 1) p → Escape in_escape after_backslash d i p
letter_read d i p h letter e = record {
  content_is = content-after_backslash d i h ∙ rw letter e.content_is;
  lexed = escaped_passed d i h ∙ e.lexed;
  forward = omega (arith, e.forward);
  bound = e.bound;
  ascii = e.ascii;
}

pub short_read : (d : List ℕ) (i c : ℕ) → i < length d → (get_or d i 0 ≡ 117 → ⊥)
    → short_escape (get_or d i 0) ≡ Some c → c < 128 → get_or d i 0 < 128
    → Escape in_escape after_backslash d i (c, i + 1)
unfolding encode_utf8
short_read d i c h plainly is small low =
    let last : i + 1 - 1 ≡ i = omega arith in
    record {
      content_is = content-after_backslash d i h ∙ rw (ne_eqb (get_or d i 0) 117 plainly, is) (grind arith);
      lexed = escaped_passed d i h;
      forward = omega arith;
      bound = omega arith;
      ascii = rw last low;
    }
