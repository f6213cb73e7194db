-- The tens and the digits of a numeral as the program counts them; for private clauses.
use Rattle.std.specs.Prelude.{◌≡◌, ℕ, ◌+◌, ◌-◌, ◌*◌, ◌%◌, ◌^◌, ◌<◌, ◌≤◌, List, length, drop, min, slice_index, IfSome}
use Rattle.std.specs.Char.{digit_value}
use Rattle.std.specs.Str.Parse.{digits_value}
use Rattle.fast_float.specs.Text.{Parts, digits_of, tens_up, tens_down}
use Rattle.jskw_text.specs.NumberText.{scaled}

-- a text has fewer digits than its length may be
abbrev pub IsShort : Parts → Type 0
IsShort p = length p.whole + length p.fraction < 2 ^ 63

-- an exponent counts as 2^64 - 1 at most, and no text has as many digits
pub record HasTens (p : Parts) (up down : ℕ) : Type 0 where
  pub short : length p.fraction < 2 ^ 63
  pub up_is : up ≡ min (tens_up p) (2 ^ 64 - 1)
  pub down_is : down ≡ length p.fraction + min (tens_down p - length p.fraction) (2 ^ 64 - 1)
  pub one : min (tens_up p) (tens_down p - length p.fraction) ≡ 0
  pub behind : length p.fraction ≤ tens_down p

-- so many digits are all but the zeros at the end
pub record EndsDigits (ds : List ℕ) (end : ℕ) : Type 0 where
  pub within : end ≤ length ds
  pub zeros : digits_value 10 (drop end ds) ≡ 0
  pub last : 0 < end → 0 < digit_value (slice_index ds (end - 1))

-- all digits are a number and so many zeros, and the number is 0 or does not end with one
pub record HasSignificand (p : Parts) (size zeros : ℕ) : Type 0 where
  pub digits : digits_of p ≡ size * 10 ^ zeros
  pub cut : size % 10 ≡ 0 → size ≡ 0
  pub short : zeros < 2 ^ 63

-- at each scale the number is 2^64 or more, if it is whole
abbrev pub IsTooLarge : Parts → Type 0
IsTooLarge p = (k : ℕ) → IfSome (scaled p k) (λ n. 2 ^ 64 ≤ n)
