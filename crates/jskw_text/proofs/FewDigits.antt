-- Numbers of few digits without an exponent.
use Rattle.std.proofs.Common.{◌≡◌, ℕ, ◌+◌, ◌-◌, ◌*◌, ◌%◌, ◌^◌, ◌<◌, ◌≤◌, ◌==◌, ◌&&◌, List, [], ◌++◌, length, drop}
use Rattle.std.proofs.Common.{get_or, Bool, true, false, not, cond, Option, Some, None, IfSome, option_map}
use Rattle.std.proofs.Common.{option_and_then, nat_lt, refl, sym, ap, ap₂, ◌∙◌, arith, take_all, length-drop, lt-ltb}
use Rattle.std.proofs.Common.{append-nil, length-take-le, subst, if◌then◌else◌}
use Rattle.std.proofs.lemmas.List.{get_or_past}
use Rattle.std.specs.List.{slice_range}
use Rattle.std.specs.Option.{option_or}
use Rattle.std.specs.Str.Parse.{digits_value, AllDigits}
use Rattle.core.proofs.dec2flt.DigitsLemmas.{digits_value-append, wrapped_join}
use Rattle.core.proofs.dec2flt.Rows.{AllDigits-append, AllDigits-digits_len}
use Rattle.std.specs.Float.Numeral.{digits_len, digits_end, exponent_start, has_exponent, scan_numeral as scan}
use Rattle.fast_float.specs.Text.{Parts, digits_of, with_sign}
use Rattle.serde_json.specs.Read.{is_integer}
use Rattle.jskw_value.specs.Number.{Num, exact, is_decimal, signed}
use Rattle.jskw_value.specs.Decimal.{value}
use Rattle.jskw_value.specs.declared.decimal.Decimal.{Decimal}
use Rattle.jskw_text.specs.NumberText.{at_scale, at_most, scaled, decimal_of, scale_of, decimal_from}
use Rattle.jskw_text.proofs.Numbers.{as_written, at_most_is, no_value, none_either}

-- the decimal that is made of a sign, a size and a scale
abbrev pub made : Bool → ℕ → ℕ → Option Num
made negative n k = if is_decimal (signed negative n) k then Some (exact (signed negative n) k) else None

-- the decimal of a scale, where the size at that scale is known
at_scale_is : (negative : Bool) (p : Parts) (k n : ℕ) → scaled p k ≡ Some n → at_scale negative p k ≡ made negative n k
unfolding at_scale decimal_of
at_scale_is negative p k n e = ap (option_and_then (λ n. decimal_of (with_sign negative n) k)) e

-- where it is made, it is what is read
is_read : (o m : Option Num) (r : Option Decimal) → o ≡ m → option_map value r ≡ m → IfSome r (λ d. o ≡ Some (value d))
is_read o m None e h = tt
is_read o m (Some d) e h = e ∙ sym h

is_first : (o m rest : Option Num) (r : Option Decimal) → o ≡ option_or m rest → option_map value r ≡ m
    → IfSome r (λ d. o ≡ Some (value d))
is_first o m rest None e h = tt
is_first o m rest (Some d) e h = e ∙ ap (λ x. option_or x rest) (sym h)

-- ---- the parts of such a number

-- behind the last byte no exponent begins
no_exponent : (t : List ℕ) (i : ℕ) → length t ≤ i → has_exponent t i ≡ false
no_exponent t i l = rw (get_or_past t i 0 l) refl

-- no parts are an integer that have a point
has_point : (b c d : Bool) → b ≡ true → d && not b && c ≡ false
has_point true c true e = refl
has_point true c false e = refl
has_point false c d e = absurd (cc)

all_three : (b c d : Bool) → b ≡ true → c ≡ false → d ≡ true → b && not c && d ≡ true
all_three true false true e f g = refl
all_three true true d e f g = absurd (cc)
all_three true false false e f g = absurd (cc)
all_three false c d e f g = absurd (cc)

chosen : {X : Type 0} (b : Bool) (x y : X) → b ≡ false → cond b x y ≡ y
chosen b x y e = rw e refl

taken : {X : Type 0} (b : Bool) (x y : X) → b ≡ true → cond b x y ≡ x
taken b x y e = rw e refl

-- what is read of nothing but digits
pub whole_value : (t : List ℕ) (b size : ℕ) → b ≡ length t
    → size ≡ (0 * 10 ^ (b - 0) + digits_value 10 (slice_range t 0 b)) % 2 ^ 64 → size ≡ digits_value 10 t % 2 ^ 64
whole_value t b size end e =
    let v = digits_value 10 (slice_range t 0 b) in
    let alone : 0 * 10 ^ (b - 0) + v ≡ v = omega arith in
    let all : slice_range t 0 b ≡ t = take_all (b - 0) t (omega arith) in
    e ∙ ap (λ n. n % 2 ^ 64) alone ∙ ap (λ ds. digits_value 10 ds % 2 ^ 64) all

-- the parts of a text whose digits end at a, and behind a point at b
abbrev parts_at : List ℕ → ℕ → Bool → ℕ → Parts
parts_at t a point b = record {
  whole = slice_range t 0 a;
  point = point;
  fraction = cond point (slice_range t (a + 1) b) [];
  exponent_negative = has_exponent t b && get_or t (b + 1) 0 == 45;
  exponent = cond (has_exponent t b) (slice_range t (exponent_start t b) (digits_end t (exponent_start t b))) [];
  len = cond (has_exponent t b) (digits_end t (exponent_start t b)) b;
}

scan_is : (t : List ℕ) (a : ℕ) (point : Bool) (b : ℕ) → digits_end t 0 ≡ a → (get_or t a 0 == 46) ≡ point
    → cond point (digits_end t (a + 1)) a ≡ b
    → scan t ≡ parts_at t a point b
unfolding scan
scan_is t a point b ends dot more =
    ap (λ i. parts_at t i (get_or t i 0 == 46) (cond (get_or t i 0 == 46) (digits_end t (i + 1)) i)) ends
    ∙ ap (λ c. parts_at t a c (cond c (digits_end t (a + 1)) a)) dot ∙ ap (parts_at t a point) more

-- behind the last byte there is no exponent
nothing_behind : (t : List ℕ) (a : ℕ) (point : Bool) → scan t ≡ parts_at t a point (length t) → (scan t).exponent ≡ []
nothing_behind t a point is = ap (λ p. p.exponent) is ∙ chosen (has_exponent t (length t)) _ []
    (no_exponent t (length t) (omega arith))

-- nothing but digits
module _ (t : List ℕ) (all : digits_len t ≡ length t) where
  parts : scan t ≡ parts_at t (length t) false (length t)
  parts =
      scan_is t (length t) false (length t) (omega (arith, all))
      (ap (λ n. n == 46) (get_or_past t (length t) 0 (omega arith))) refl

  whole_is : (scan t).whole ≡ t
  whole_is = ap (λ p. p.whole) parts ∙ take_all (length t - 0) t (omega arith)

  no_fraction : (scan t).fraction ≡ []
  no_fraction = ap (λ p. p.fraction) parts

  none_behind : (scan t).exponent ≡ []
  none_behind = nothing_behind t (length t) false parts

  pub whole_read : (negative : Bool) (size : ℕ) (r : Option Decimal) → 0 < length t → length t ≤ 19
      → size ≡ digits_value 10 t % 2 ^ 64
      → option_map value r ≡ made negative size 0 → IfSome r (λ d. decimal_from negative (scan t) ≡ Some (value d))
  whole_read negative size r some few e m =
      let p = scan t in
      let digits : p.whole ++ p.fraction ≡ t = ap₂ (λ x y. x ++ y) whole_is no_fraction ∙ append-nil t in
      let all_digits : AllDigits 10 t =
      subst (AllDigits 10) (take_all (length t) t (omega arith))
      (AllDigits-digits_len t (length t) (omega (arith, all))) in
      let value : size ≡ digits_of p % 2 ^ 64 = e ∙ ap (λ ds. digits_value 10 ds % 2 ^ 64) (sym digits) in
      let at_zero : scaled p 0 ≡ Some size =
      as_written p 0 size (subst (AllDigits 10) (sym digits) all_digits) (ap length none_behind) (ap length no_fraction)
      (omega (arith, ap length whole_is, ap length no_fraction, few)) value in
      let is : is_integer p ≡ true = all_three (nat_lt 0 (length p.whole)) p.point (length p.exponent == 0)
      (ap (λ w. nat_lt 0 (length w)) whole_is ∙ lt-ltb 0 (length t) some) (ap (λ p. p.point) parts)
      (ap (λ x. length x == 0) none_behind) in
      is_read (decimal_from negative p) (made negative size 0) r
      (taken (is_integer p) (at_scale negative p 0) (at_most negative p (scale_of p)) is
      ∙ at_scale_is negative p 0 size at_zero) m

-- digits, a point and digits
module _ (t : List ℕ) (a : ℕ) (front : digits_len t ≡ a) (point : get_or t a 0 ≡ 46)
    (rest : a + 1 + digits_len (drop (a + 1) t) ≡ length t) where
  parts_around : scan t ≡ parts_at t a true (length t)
  parts_around = scan_is t a true (length t) (omega (arith, front)) (ap (λ n. n == 46) point) rest

  front_is : (scan t).whole ≡ slice_range t 0 a
  front_is = ap (λ p. p.whole) parts_around

  rest_is : (scan t).fraction ≡ slice_range t (a + 1) (length t)
  rest_is = ap (λ p. p.fraction) parts_around

  none_after : (scan t).exponent ≡ []
  none_after = nothing_behind t a true parts_around

  pub fraction_read : (negative : Bool) (whole size : ℕ) (r : Option Decimal) → a + 1 < length t → length t ≤ 19
      → whole ≡ (0 * 10 ^ (a - 0) + digits_value 10 (slice_range t 0 a)) % 2 ^ 64
      → size ≡ (whole * 10 ^ (length t - (a + 1)) + digits_value 10 (slice_range t (a + 1) (length t))) % 2 ^ 64
      → option_map value r ≡ made negative size (length t - a - 1)
      → IfSome r (λ d. decimal_from negative (scan t) ≡ Some (value d))
  fraction_read negative whole size r some few w e m =
      let p = scan t in
      let k = length t - a - 1 in
      let before = slice_range t 0 a in
      let behind = slice_range t (a + 1) (length t) in
      let behind_long : length behind ≡ length t - (a + 1) =
      length-take-le (length t - (a + 1)) (drop (a + 1) t) (omega (arith, length-drop (a + 1) t)) in
      let before_long : length before ≡ a - 0 = length-take-le (a - 0) t (omega arith) in
      let places : length p.fraction ≡ k = omega (arith, ap length rest_is, behind_long) in
      let digits : p.whole ++ p.fraction ≡ before ++ behind = ap₂ (λ x y. x ++ y) front_is rest_is in
      let front_digits : AllDigits 10 before = AllDigits-digits_len t (a - 0) (omega (arith, front)) in
      let rest_digits : AllDigits 10 behind =
      AllDigits-digits_len (drop (a + 1) t) (length t - (a + 1)) (omega (arith, rest)) in
      let value : size ≡ digits_of p % 2 ^ 64 =
      e ∙ ap (λ n. (n * 10 ^ (length t - (a + 1)) + digits_value 10 behind) % 2 ^ 64) w
      ∙ wrapped_join (10 ^ (a - 0)) (digits_value 10 before) (10 ^ (length t - (a + 1))) (digits_value 10 behind)
      ∙ ap (λ n. (digits_value 10 before * 10 ^ n + digits_value 10 behind) % 2 ^ 64) (sym behind_long)
      ∙ ap (λ n. n % 2 ^ 64) (sym (digits_value-append before behind))
      ∙ ap (λ ds. digits_value 10 ds % 2 ^ 64) (sym digits) in
      let at_places : scaled p k ≡ Some size =
      as_written p k size (subst (AllDigits 10) (sym digits) (AllDigits-append before behind front_digits rest_digits))
      (ap length none_after) places
      (omega (arith, places, ap length front_is, before_long)) value in
      let not_integer : is_integer p ≡ false =
      has_point p.point (length p.exponent == 0) (nat_lt 0 (length p.whole)) (ap (λ p. p.point) parts_around) in
      let empty =
      none_either p.exponent_negative (digits_value 10 p.exponent) (no_value p.exponent (ap length none_after)) in
      let scale : scale_of p ≡ k = omega (arith, empty.0, empty.1, places) in
      is_first (decimal_from negative p) (made negative size k) (at_most negative p (k - 1)) r
      (chosen (is_integer p) (at_scale negative p 0) (at_most negative p (scale_of p)) not_integer
      ∙ ap (at_most negative p) scale
      ∙ at_most_is negative p k (omega arith)
      ∙ ap (λ o. option_or o (at_most negative p (k - 1))) (at_scale_is negative p k size at_places)) m
