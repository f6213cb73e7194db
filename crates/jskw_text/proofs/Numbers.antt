-- Digits moved by tens.
use Rattle.std.proofs.Common.{◌≡◌, ℕ, zero, suc, ◌+◌, ◌-◌, ◌*◌, ◌/◌, ◌%◌, ◌^◌, ◌<◌, ◌≤◌, ◌==◌, List, ◌++◌, length, Bool}
use Rattle.std.proofs.Common.{true, false, cond, Option, Some, None, IfSome, option_and_then, le-ltb, refl, ap, ap₂}
use Rattle.std.proofs.Common.{◌∙◌, arith, mul-le-mul_right, ne_eqb, lit<, [], ◌∷◌, length-append}
use Rattle.std.proofs.Math.Nat.{mod-lt, div-add-mod, mul-lt-mul_of_pos_right}
use Rattle.std.proofs.lemmas.Nat.{div-mul-add, mod-mul-add}
use Rattle.std.specs.Option.{option_or}
use Rattle.std.specs.Str.Parse.{digits_value, AllDigits}
use Rattle.core.proofs.dec2flt.ExactLemmas.{ten_to_pos}
use Rattle.core.proofs.dec2flt.Rows.{short_fits}
use lib.Pow.{pow-add}
use Rattle.fast_float.specs.Text.{Parts, digits_of, tens_up, tens_down, with_sign}
use Rattle.serde_json.specs.Read.{is_integer}
use Rattle.jskw_value.specs.Number.{Num}
use Rattle.jskw_text.specs.NumberText.{quotient, scaled, decimal_of, at_scale, at_most, scale_of, decimal_from}
use Rattle.jskw_text.specs.Tens.{HasSignificand, IsTooLarge}

-- the quotient of a multiple and a rest
pub quotient_is : (n a b w : ℕ) → n ≡ a * w + b → b < w → quotient n w ≡ cond (b == 0) (Some a) None
quotient_is n a b w e l = rw (e, mod-mul-add a w b l, div-mul-add a w b l)

-- ---- a number moved by tens

pub moved_up : (s a b : ℕ) → b ≤ a → quotient (s * 10 ^ a) (10 ^ b) ≡ Some (s * 10 ^ (a - b))
moved_up s a b h =
    let tens : 10 ^ a ≡ 10 ^ (a - b) * 10 ^ b =
    (let e : a ≡ a - b + b = omega arith in ap (λ n. 10 ^ n) e ∙ pow-add 10 (a - b) b) in
    quotient_is (s * 10 ^ a) (s * 10 ^ (a - b)) 0 (10 ^ b) (omega (arith, ap (λ x. s * x) tens)) (ten_to_pos b)

ends_with_zero : (s q w : ℕ) → 0 < w → s ≡ q * 10 ^ w → s % 10 ≡ 0
ends_with_zero s q w h e =
    let tens : 10 ^ w ≡ 10 ^ (w - 1) * 10 =
    (let e : w ≡ w - 1 + 1 = omega arith in ap (λ n. 10 ^ n) e ∙ pow-add 10 (w - 1) 1) in
    let is : s ≡ q * 10 ^ (w - 1) * 10 + 0 = omega (arith, e, ap (λ x. q * x) tens) in
    ap (λ n. n % 10) is ∙ mod-mul-add (q * 10 ^ (w - 1)) 10 0 (lit< tt)

-- what does not end with a zero is not whole behind the point
pub moved_down : (s a b : ℕ) → (s % 10 ≡ 0 → s ≡ 0) → 0 < s → a < b → quotient (s * 10 ^ a) (10 ^ b) ≡ None
moved_down s a b cut some h =
    let w = b - a in
    let q = s / 10 ^ w in
    let r = s % 10 ^ w in
    let parts : s ≡ q * 10 ^ w + r = omega (arith, div-add-mod s (10 ^ w)) in
    let below : r < 10 ^ w = mod-lt s (ten_to_pos w) in
    let rest : r ≡ 0 → ⊥ = λ z. omega (arith, cut (ends_with_zero s q w (omega arith) (omega arith))) in
    let tens : 10 ^ b ≡ 10 ^ w * 10 ^ a = (let e : b ≡ w + a = omega arith in ap (λ n. 10 ^ n) e ∙ pow-add 10 w a) in
    let more : r * 10 ^ a ≡ 0 → ⊥ = λ z. omega (arith, mul-le-mul_right (10 ^ a) (some_of r rest), ten_to_pos a) in
    quotient_is (s * 10 ^ a) q (r * 10 ^ a) (10 ^ b) (omega (arith, ap (λ x. x * 10 ^ a) parts, ap (λ x. q * x) tens))
    (omega (arith, tens, mul-lt-mul_of_pos_right below (ten_to_pos a)))
    ∙ rw (ne_eqb _ 0 more) refl
  where
    some_of : (r : ℕ) → (r ≡ 0 → ⊥) → 1 ≤ r
    some_of zero h = absurd (h refl)
    some_of (suc r) h = omega arith

-- the number at a scale, by its significand
pub scaled_is : (p : Parts) (size zeros k : ℕ) → HasSignificand p size zeros
    → scaled p k ≡ quotient (size * 10 ^ (zeros + (tens_up p + k))) (10 ^ tens_down p)
unfolding scaled
scaled_is p size zeros k h =
    ap (λ n. quotient n (10 ^ tens_down p)) (omega
    (arith, ap (λ x. x * 10 ^ (tens_up p + k)) h.digits, ap (λ x. size * x) (pow-add 10 zeros (tens_up p + k))))

-- no digits are worth nothing
pub no_value : (ds : List ℕ) → length ds ≡ 0 → digits_value 10 ds ≡ 0
no_value [] e = refl
no_value (d ∷ ds) e = absurd (omega arith)

pub none_either : (b : Bool) (n : ℕ) → n ≡ 0 → (cond b 0 n ≡ 0) × (cond b n 0 ≡ 0)
none_either true n e = (refl, e)
none_either false n e = (e, refl)

-- Where there is no exponent and as many digits stand behind the point as the scale says, all digits are the number.
pub digits_alone : (p : Parts) (k : ℕ) → length p.exponent ≡ 0 → length p.fraction ≡ k → scaled p k ≡ Some (digits_of p)
unfolding scaled
digits_alone p k none places =
    let empty = none_either p.exponent_negative (digits_value 10 p.exponent) (no_value p.exponent none) in
    let up : tens_up p + k ≡ k = omega (arith, empty.0) in
    let down : tens_down p ≡ k = omega (arith, empty.1) in
    ap₂ (λ m v. quotient (digits_of p * 10 ^ m) (10 ^ v)) up down
    ∙ quotient_is (digits_of p * 10 ^ k) (digits_of p) 0 (10 ^ k) (omega arith) (ten_to_pos k)

-- where these are few, they are one word
pub as_written : (p : Parts) (k wrapped : ℕ) → AllDigits 10 (p.whole ++ p.fraction) → length p.exponent ≡ 0
    → length p.fraction ≡ k → length p.whole + length p.fraction ≤ 19
    → wrapped ≡ digits_of p % 2 ^ 64 → scaled p k ≡ Some wrapped
as_written p k wrapped h none places few e =
    let fits : digits_of p < 2 ^ 64 =
    short_fits (p.whole ++ p.fraction) h (omega (arith, length-append p.whole p.fraction)) in
    let same : digits_of p ≡ wrapped = omega arith in
    digits_alone p k none places ∙ ap Some same

-- of several scales, the greatest comes first
pub at_most_is : (negative : Bool) (p : Parts) (k : ℕ) → 0 < k
    → at_most negative p k ≡ option_or (at_scale negative p k) (at_most negative p (k - 1))
unfolding at_most
at_most_is negative p zero h = absurd (omega arith)
at_most_is negative p (suc k) h = let less : suc k - 1 ≡ k = omega arith in rw less refl

-- ---- what fits no scale

-- what is 2^64 or more is no coefficient
too_large : (negative : Bool) (n k : ℕ) → 2 ^ 64 ≤ n → decimal_of (with_sign negative n) k ≡ None
unfolding decimal_of
too_large false n k h = rw (le-ltb n (2 ^ 64) h) refl
too_large true zero k h = absurd (omega arith)
too_large true (suc n) k h = let large : 2 ^ 63 ≤ n = omega arith in rw (le-ltb n (2 ^ 63) large) refl

pub none_fits : (negative : Bool) (k : ℕ) (o : Option ℕ) → IfSome o (λ n. 2 ^ 64 ≤ n)
    → option_and_then (λ n. decimal_of (with_sign negative n) k) o ≡ None
none_fits negative k None h = refl
none_fits negative k (Some n) h = too_large negative n k h

none_at : (negative : Bool) (p : Parts) (k : ℕ) → IsTooLarge p → at_scale negative p k ≡ None
unfolding at_scale
none_at negative p k h = none_fits negative k (scaled p k) (h k)

none_at_most : (negative : Bool) (p : Parts) (k : ℕ) → IsTooLarge p → at_most negative p k ≡ None
unfolding at_most
none_at_most negative p zero h = refl
none_at_most negative p (suc k) h = ap₂ option_or (none_at negative p (suc k) h) (none_at_most negative p k h)

pub none_from : (negative : Bool) (p : Parts) → IsTooLarge p → decimal_from negative p ≡ None
none_from negative p h = either (is_integer p) (none_at negative p 0 h) (none_at_most negative p (scale_of p) h)
  where
    either : (b : Bool) {x y : Option Num} → x ≡ None → y ≡ None → cond b x y ≡ None
    either true e f = e
    either false e f = f
