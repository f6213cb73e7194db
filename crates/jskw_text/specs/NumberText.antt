-- The decimal that the text of a JSON number denotes.
use Rattle.std.specs.Prelude.{ℕ, zero, suc, ◌+◌, ◌-◌, ◌*◌, ◌/◌, ◌%◌, ◌^◌, ◌==◌, min, max, List, drop, slice_index, ℤ}
use Rattle.std.specs.Prelude.{Bool, true, false, if◌then◌else◌, Option, Some, None, option_and_then}
use Rattle.std.specs.Option.{option_or}
use Rattle.fast_float.specs.Text.{Parts, scan, minus, digits_of, tens_up, tens_down, with_sign}
use Rattle.serde_json.specs.Read.{is_integer}
use Rattle.jskw_value.specs.Number.{Num, exact, is_decimal}

-- a divided by b, where that is a whole number
abbrev pub quotient : ℕ → ℕ → Option ℕ
quotient a b = if a % b == 0 then Some (a / b) else None

-- The number without its sign is digits_of p * 10 ^ tens_up p / 10 ^ tens_down p: all digits as one number, moved by
-- the point and the exponent. This is that number times 10 ^ k, where that is whole.
unfoldable pub scaled : Parts → ℕ → Option ℕ
scaled p k = quotient (digits_of p * 10 ^ (tens_up p + k)) (10 ^ tens_down p)

-- the decimal of that coefficient and scale, where they are in range
unfoldable pub decimal_of : ℤ → ℕ → Option Num
decimal_of c k = if is_decimal c k then Some (exact c k) else None

-- the decimal with scale k and this very value, where there is one
unfoldable pub at_scale : Bool → Parts → ℕ → Option Num
at_scale negative p k = option_and_then (λ n. decimal_of (with_sign negative n) k) (scaled p k)

-- of the decimals with this very value, the one with the greatest scale from 1 to k
unfoldable pub at_most : Bool → Parts → ℕ → Option Num
at_most negative p zero = None
at_most negative p (suc k) = option_or (at_scale negative p (suc k)) (at_most negative p k)

-- how many digits stand behind the point once the exponent has moved it, but 1 at least and 18 at most
abbrev pub scale_of : Parts → ℕ
scale_of p = min 18 (max 1 (tens_down p - tens_up p))

-- With neither a point nor an exponent the scale is 0. Otherwise it is as many digits as are written, or fewer where
-- only that is in range, and never 0, so that 1.0 is not written as an integer.
abbrev pub decimal_from : Bool → Parts → Option Num
decimal_from negative p = if is_integer p then at_scale negative p 0 else at_most negative p (scale_of p)

-- the decimal that the text of a number denotes, where there is one
unfoldable pub number_of : List ℕ → Option Num
number_of s = if slice_index s 0 == minus then decimal_from true (scan (drop 1 s)) else decimal_from false (scan s)
