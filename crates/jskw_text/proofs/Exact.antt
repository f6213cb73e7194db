-- The decimal of a number has its value, and is missing only where no decimal has it.
use Rattle.std.proofs.Common.{◌≡◌, ℕ, zero, suc, ◌+◌, ◌-◌, ◌*◌, ◌/◌, ◌%◌, ◌^◌, ◌<◌, ◌≤◌, ◌==◌, ℤ, pos, negsuc}
use Rattle.std.proofs.Common.{unsigned_abs, Bool, true, false, cond, List, drop, Option, Some, None, option_and_then}
use Rattle.std.proofs.Common.{refl, sym, ap, subst, ◌∙◌, arith, inl, inr, nat_lt, nat_le, eqb-true, ltb-true, leb-true}
use Rattle.std.proofs.Common.{lt-ltb, le-leb, ne_eqb, mul-le-mul_left, mul-le-mul_right}
use Rattle.std.proofs.Math.Nat.{div-add-mod}
use Rattle.std.proofs.lemmas.Bool.{cases_lt}
use Rattle.std.specs.Option.{option_or}
use Rattle.core.proofs.dec2flt.ExactLemmas.{ten_to_pos}
use Rattle.fast_float.specs.Text.{Parts, digits_of, tens_up, tens_down, with_sign}
use Rattle.std.specs.Float.Numeral.{scan_numeral as scan}
use lib.Pow.{pow-add}
use Rattle.serde_json.specs.Read.{is_integer}
use Rattle.jskw_value.specs.Number.{Num, exact, is_decimal}
use Rattle.jskw_text.proofs.Alike.{both, cases_of, tens_of_integer}
use Rattle.jskw_text.proofs.Numbers.{quotient_is}
use Rattle.jskw_text.specs.Laws.{Denotes, DecimalsAreExact, is_negative, parts_of}
use Rattle.jskw_text.specs.NumberText.{quotient, scaled, decimal_of, at_scale, at_most, scale_of, decimal_from}
use Rattle.jskw_text.specs.NumberText.{number_of}

-- ---- one scale

-- a quotient that is whole
quotient_some : (a b n : ℕ) → quotient a b ≡ Some n → n * b ≡ a
quotient_some a b n e = cases_of (a % b == 0)
    (λ h. let is : Some (a / b) ≡ Some n = sym (rw h refl) ∙ e in let same : a / b ≡ n = cc in
    let rest : a % b ≡ 0 = eqb-true _ _ h in omega (arith, div-add-mod a b, ap (λ x. b * x) same))
    (λ h. let is : None ≡ Some n = sym (rw h refl) ∙ e in absurd (cc))

quotient_of : (a b n : ℕ) → 0 < b → n * b ≡ a → quotient a b ≡ Some n
quotient_of a b n some e = quotient_is a n 0 b (omega (arith, e)) some

abs_signed : (negative : Bool) (n : ℕ) → unsigned_abs (with_sign negative n) ≡ n
abs_signed false n = refl
abs_signed true zero = refl
abs_signed true (suc n) = refl

gives_scaled : (negative : Bool) (p : Parts) (i k : ℕ) (c : ℤ) (o : Option ℕ) → scaled p i ≡ o
    → option_and_then (λ n. decimal_of (with_sign negative n) i) o ≡ Some (exact c k) → (k ≡ i) × Denotes negative p c k
unfolding scaled decimal_of
gives_scaled negative p i k c None e h = absurd (cc)
gives_scaled negative p i k c (Some n) e h = cases_of (is_decimal (with_sign negative n) i)
    (λ fits. let is : Some (exact (with_sign negative n) i) ≡ Some (exact c k) = sym (rw fits refl) ∙ h in
    let same : with_sign negative n ≡ c = cc in
    let scale : k ≡ i = cc in
    let abs : unsigned_abs c ≡ n = ap unsigned_abs (sym same) ∙ abs_signed negative n in
    let value : n * 10 ^ tens_down p ≡ digits_of p * 10 ^ (tens_up p + i) = quotient_some _ _ n e in
    let tens : 10 ^ (tens_up p + k) ≡ 10 ^ tens_up p * 10 ^ k = pow-add 10 (tens_up p) k in (
      scale,
      record {
        sign =
            sym same ∙ ap (with_sign negative) (sym abs);
        size =
            omega (
              arith,
              value,
              ap (λ x. x * 10 ^ tens_down p) abs,
              ap (λ x. digits_of p * x) tens,
              ap (λ j. digits_of p * 10 ^ (tens_up p + j)) scale,
            );
      },
    ))
    (λ never. let is : None ≡ Some (exact c k) = sym (rw never refl) ∙ h in absurd (cc))

at_scale_gives : (negative : Bool) (p : Parts) (i k : ℕ) (c : ℤ) → at_scale negative p i ≡ Some (exact c k)
    → (k ≡ i) × Denotes negative p c k
unfolding at_scale
at_scale_gives negative p i k c h = gives_scaled negative p i k c (scaled p i) refl h

-- a decimal of that scale with the value is found
at_scale_finds : (negative : Bool) (p : Parts) (k : ℕ) (c : ℤ) → is_decimal c k ≡ true → Denotes negative p c k
    → at_scale negative p k ≡ Some (exact c k)
unfolding at_scale scaled decimal_of
at_scale_finds negative p k c fits d =
    let n = unsigned_abs c in
    let value : n * 10 ^ tens_down p ≡ digits_of p * 10 ^ (tens_up p + k) =
    omega (arith, d.size, ap (λ x. digits_of p * x) (pow-add 10 (tens_up p) k)) in
    let found = quotient_of _ (10 ^ tens_down p) n (ten_to_pos _) value in
    rw (found, ← d.sign, fits) refl

-- ---- several scales

step_gives : (negative : Bool) (p : Parts) (i k : ℕ) (c : ℤ) (o rest : Option Num) → at_scale negative p (suc i) ≡ o
    → option_or o rest ≡ Some (exact c k)
    → (rest ≡ Some (exact c k) → (0 < k) × Denotes negative p c k) → (0 < k) × Denotes negative p c k
step_gives negative p i k c None rest e h below = below h
step_gives negative p i k c (Some n) rest e h below = let found = at_scale_gives negative p (suc i) k c (e ∙ h) in
    (omega (arith, found.0), found.1)

at_most_gives : (negative : Bool) (p : Parts) (i k : ℕ) (c : ℤ) → at_most negative p i ≡ Some (exact c k)
    → (0 < k) × Denotes negative p c k
unfolding at_most
at_most_gives negative p zero k c h = absurd (cc)
at_most_gives negative p (suc i) k c h =
    step_gives negative p i k c (at_scale negative p (suc i)) (at_most negative p i) refl h
    (λ e. at_most_gives negative p i k c e)

step_none : (negative : Bool) (p : Parts) (i k : ℕ) (o rest : Option Num) → at_scale negative p (suc i) ≡ o
    → option_or o rest ≡ None → k ≤ suc i
    → (rest ≡ None → k ≤ i → at_scale negative p k ≡ None) → at_scale negative p k ≡ None
step_none negative p i k (Some n) rest e h within below = absurd (cc)
step_none negative p i k None rest e h within below = elim (cases_lt k (suc i)) [
  | inl less ↦ below h (omega arith)
  | inr equal ↦ let same : k ≡ suc i = omega arith in ap (at_scale negative p) same ∙ e
]

at_most_none : (negative : Bool) (p : Parts) (i k : ℕ) → at_most negative p i ≡ None → 0 < k → k ≤ i
    → at_scale negative p k ≡ None
unfolding at_most
at_most_none negative p zero k h some within = absurd (omega arith)
at_most_none negative p (suc i) k h some within =
    step_none negative p i k (at_scale negative p (suc i)) (at_most negative p i) refl h within
    (λ e less. at_most_none negative p i k e some less)

-- ---- a lesser scale

in_range : (negative : Bool) (n m k i : ℕ) → m ≤ n → i ≤ 18 → is_decimal (with_sign negative n) k ≡ true
    → is_decimal (with_sign negative m) i ≡ true
in_range false n m k i less short h =
    let t = both (nat_lt n (2 ^ 64)) (nat_le k 18) h in
    let fits : m < 2 ^ 64 = omega (arith, ltb-true _ _ t.0) in
    rw (lt-ltb m (2 ^ 64) fits, le-leb i 18 short) refl
in_range true n zero k i less short h = rw (le-leb i 18 short) refl
in_range true zero (suc m) k i less short h = absurd (omega arith)
in_range true (suc n) (suc m) k i less short h =
    let t = both (nat_lt n (2 ^ 63)) (nat_le k 18) h in
    let fits : m < 2 ^ 63 = omega (arith, ltb-true _ _ t.0) in
    rw (lt-ltb m (2 ^ 63) fits, le-leb i 18 short) refl

suc_le : (a b : ℕ) → a < b → a + 1 ≤ b
suc_le a b h = omega arith

cancel : (a b w : ℕ) → 0 < w → a * w ≡ b * w → a ≡ b
cancel a b w some e = elim (cases_lt a b) [
  | inl less ↦ absurd (omega (arith, mul-le-mul_right w (suc_le a b less)))
  | inr more ↦ elim (cases_lt b a) [
    | inl less ↦ absurd (omega (arith, mul-le-mul_right w (suc_le b a less)))
    | inr equal ↦ omega arith
  ]
]

-- where the digits need no more scale, a lesser scale that is enough for them does as well
lesser : (negative : Bool) (p : Parts) (c : ℤ) (k i : ℕ) → Denotes negative p c k → is_decimal c k ≡ true → i ≤ k
    → i ≤ 18 → tens_down p ≤ tens_up p + i
    → (d : ℤ) × (is_decimal d i ≡ true) × Denotes negative p d i
lesser negative p c k i d fits less short enough =
    let n = unsigned_abs c in
    let u = tens_up p in
    let v = tens_down p in
    let z = u + i - v in
    let m = digits_of p * 10 ^ z in
    let tens : 10 ^ u * 10 ^ i ≡ 10 ^ z * 10 ^ v =
    (let e : u + i ≡ z + v = omega arith in sym (pow-add 10 u i) ∙ ap (λ j. 10 ^ j) e ∙ pow-add 10 z v) in
    let more : 10 ^ k ≡ 10 ^ i * 10 ^ (k - i) =
    (let e : k ≡ i + (k - i) = omega arith in ap (λ j. 10 ^ j) e ∙ pow-add 10 i (k - i)) in
    let product : n * 10 ^ v ≡ m * 10 ^ (k - i) * 10 ^ v =
    omega (arith, d.size, ap (λ x. digits_of p * 10 ^ u * x) more, ap (λ x. digits_of p * x * 10 ^ (k - i)) tens) in
    let times : n ≡ m * 10 ^ (k - i) = cancel n (m * 10 ^ (k - i)) (10 ^ v) (ten_to_pos v) product in
    let smaller : m ≤ n = omega (arith, times, mul-le-mul_left m (ten_to_pos (k - i))) in
    let abs = abs_signed negative m in (
      with_sign negative m,
      in_range negative n m k i smaller short (rw (← d.sign) fits),
      record {
        sign =
            ap (with_sign negative) (sym abs);
        size =
            omega (arith, ap (λ x. x * 10 ^ v) abs, ap (λ x. digits_of p * x) tens);
      },
    )

missed : (negative : Bool) (p : Parts) (c : ℤ) (k i : ℕ) → Denotes negative p c k → is_decimal c k ≡ true → i ≤ k
    → i ≤ 18 → tens_down p ≤ tens_up p + i
    → at_scale negative p i ≡ None → ⊥
missed negative p c k i d fits less short enough none =
    let e = lesser negative p c k i d fits less short enough in
    let is : Some (exact e.0 i) ≡ None = sym (at_scale_finds negative p i e.0 e.1 e.2) ∙ none in absurd (cc)

-- the scale of a decimal
scale_fits : (c : ℤ) (k : ℕ) → is_decimal c k ≡ true → k ≤ 18
scale_fits (pos n) k h = leb-true _ _ (both (nat_lt n (2 ^ 64)) (nat_le k 18) h).1
scale_fits (negsuc n) k h = leb-true _ _ (both (nat_lt n (2 ^ 63)) (nat_le k 18) h).1

-- ---- a sign and parts

record IsExactFrom (negative : Bool) (p : Parts) (o : Option Num) : Type 0 where
  same_value : (c : ℤ) (k : ℕ) → o ≡ Some (exact c k) → Denotes negative p c k
  same_form : (c : ℤ) (k : ℕ) → o ≡ Some (exact c k) → (k == 0) ≡ is_integer p
  none_missed : (c : ℤ) (k : ℕ) → o ≡ None → is_decimal c k ≡ true → Denotes negative p c k
      → (k ≡ 0) × (is_integer p ≡ false)

whole : (negative : Bool) (p : Parts) → is_integer p ≡ true → tens_down p ≡ 0
    → IsExactFrom negative p (at_scale negative p 0)
whole negative p h down = record {
  same_value = λ c k e. (at_scale_gives negative p 0 k c e).1;
  same_form = λ c k e. let none : k ≡ 0 = (at_scale_gives negative p 0 k c e).0 in rw (none, h) refl;
  none_missed = λ c k e fits d. absurd (missed negative p c k 0 d fits (omega arith) (omega arith) (omega arith) e);
}

broken : (negative : Bool) (p : Parts) → is_integer p ≡ false → IsExactFrom negative p (at_most negative p (scale_of p))
broken negative p h = record {
  same_value = λ c k e. (at_most_gives negative p (scale_of p) k c e).1;
  same_form = λ c k e. let some : 0 < k = (at_most_gives negative p (scale_of p) k c e).0 in
      let other : k ≡ 0 → ⊥ = λ z. omega arith in rw (ne_eqb k 0 other, h) refl;
  none_missed = λ c k e fits d. elim (cases_lt 0 k) [
    | inr none ↦ (omega arith, h)
    | inl some ↦ elim (cases_lt (scale_of p) k) [
      | inl over ↦ absurd (missed negative p c k (scale_of p) d fits (omega arith) (omega arith)
          (omega (arith, scale_fits c k fits))
          (at_most_none negative p (scale_of p) (scale_of p) e (omega arith) (omega arith)))
      | inr within ↦ let is : Some (exact c k) ≡ None =
          sym (at_scale_finds negative p k c fits d) ∙ at_most_none negative p (scale_of p) k e some within in
          absurd (cc)
    ]
  ];
}

exact_from : (negative : Bool) (s : List ℕ) → IsExactFrom negative (scan s) (decimal_from negative (scan s))
exact_from negative s = cases_of (is_integer (scan s))
    (λ h. let same : decimal_from negative (scan s) ≡ at_scale negative (scan s) 0 = rw h refl in
    subst (IsExactFrom negative (scan s)) (sym same) (whole negative (scan s) h (tens_of_integer s h)))
    (λ h. let same : decimal_from negative (scan s) ≡ at_most negative (scan s) (scale_of (scan s)) = rw h refl in
    subst (IsExactFrom negative (scan s)) (sym same) (broken negative (scan s) h))

by_sign : (b : Bool) (s : List ℕ) → IsExactFrom b (cond b (scan (drop 1 s)) (scan s))
    (cond b (decimal_from true (scan (drop 1 s))) (decimal_from false (scan s)))
by_sign true s = exact_from true (drop 1 s)
by_sign false s = exact_from false s

exact_text : (s : List ℕ) → IsExactFrom (is_negative s) (parts_of s) (number_of s)
unfolding number_of
exact_text s = by_sign (is_negative s) s

pub exact_decimals : DecimalsAreExact
exact_decimals = record {
  same_value = λ s c k e. (exact_text s).same_value c k e;
  same_form = λ s c k e. (exact_text s).same_form c k e;
  none_missed = λ s c k e fits d. (exact_text s).none_missed c k e fits d;
}
