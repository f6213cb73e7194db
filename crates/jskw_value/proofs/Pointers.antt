-- Names in JSON pointers, one character at a time.
use Rattle.std.proofs.Common.{◌≡◌, ℕ, suc, ◌<◌, ◌≤◌, List, [], ◌∷◌, ◌++◌, length, get_or, refl, sym, ap, ap₂, subst}
use Rattle.std.proofs.Common.{◌∙◌, append-nil, inl, inr, arith}
use Rattle.std.proofs.lemmas.Bool.{cases_lt, ne_eqb}
use Rattle.std.proofs.lemmas.Grind.{common_steps, flat_map-append}
use Rattle.std.proofs.lemmas.Str.{encode_ascii, inside_one}
use Rattle.std.specs.Char.{encode_utf8}
use Rattle.jskw_value.specs.Pointer.{escape, escape_byte}
use Rattle.jskw_value.specs.Text.{AppendsPart, AppendsUpTo}
use Rattle.jskw_value.proofs.Texts.{part_of_next, part_so_far, up_to_end, up_to_more, up_to_nothing}

-- nothing to escape
escape_nil : (rest : List ℕ) → length rest ≡ 0 → escape rest ≡ []
escape_nil [] e = refl
escape_nil (b ∷ bs) e = absurd (omega (arith, e))

-- the next character of what is left
next_escaped : (a b rest more all : List ℕ) (c : ℕ) → AppendsUpTo a b (escape rest) all → rest ≡ encode_utf8 c ++ more
    → AppendsUpTo a b (escape (encode_utf8 c) ++ escape more) all
next_escaped a b rest more all c h e =
    subst (λ z. AppendsUpTo a b z all) (ap escape e ∙ flat_map-append escape_byte (encode_utf8 c) more) h

-- one character more of the name, one character less to go
pub append_escaped : (a b new rest more all : List ℕ) (c : ℕ) → AppendsUpTo a b (escape rest) all
    → rest ≡ encode_utf8 c ++ more → new ≡ b ++ escape (encode_utf8 c) → AppendsUpTo a new (escape more) all
append_escaped a b new rest more all c h e n =
    up_to_more a b new _ (escape more) all (next_escaped a b rest more all c h e) n

-- a beginning of one character more
pub begin_escaped : (a b new rest more all : List ℕ) (c : ℕ) → AppendsUpTo a b (escape rest) all
    → rest ≡ encode_utf8 c ++ more → AppendsPart b new (escape (encode_utf8 c)) → AppendsPart a new all
begin_escaped a b new rest more all c h e k =
    part_of_next a b new _ (escape more) all (next_escaped a b rest more all c h e) k

-- the whole name
pub all_escaped : (a b rest all : List ℕ) → AppendsUpTo a b (escape rest) all → length rest ≡ 0 → b ≡ a ++ all
all_escaped a b rest all h e = up_to_end a b all (subst (λ z. AppendsUpTo a b z all) (escape_nil rest e) h)

-- another byte stays
escape_byte_plain : (b : ℕ) → (b ≡ 126 → ⊥) → (b ≡ 47 → ⊥) → escape_byte b ≡ b ∷ []
escape_byte_plain b h k = rw (ne_eqb b 126 h, ne_eqb b 47 k) refl

-- bytes outside of ASCII stay
escape_high : (xs : List ℕ) → ((k : ℕ) → k < length xs → 128 ≤ get_or xs k 0) → escape xs ≡ xs
escape_high [] h = refl
escape_high (x ∷ xs) h =
    let high : 128 ≤ x = h 0 (omega arith) in
    let same = escape_byte_plain x (λ e. omega (arith, e)) (λ e. omega (arith, e)) in
    ap₂ (λ (a b : List ℕ). a ++ b) same (escape_high xs (λ k below. h (suc k) (omega arith)))

-- the bytes of another character than `~` and `/` stay
pub escape_plain : (c : ℕ) → (c ≡ 126 → ⊥) → (c ≡ 47 → ⊥) → escape (encode_utf8 c) ≡ encode_utf8 c
escape_plain c h k = elim (cases_lt c 128) [
  | inl small ↦ rw (encode_ascii c small, append-nil) (escape_byte_plain c h k)
  | inr big ↦ escape_high (encode_utf8 c) (λ i below. elim (cases_lt (get_or (encode_utf8 c) i 0) 128) [
    | inl low ↦ absurd (omega (arith, inside_one c [] (encode_utf8 c) i (sym (append-nil _)) below low))
    | inr high ↦ high
  ])
]

pub ruleset by_character = (all_escaped, up_to_nothing, part_so_far, common_steps)
