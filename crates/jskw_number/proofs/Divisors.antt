-- Divisors, as they are read and as they divide.
use Rattle.std.proofs.Common.{◌≡◌, [], ℕ, zero, suc, ◌<◌, ◌≤◌, ℤ, pos, true, Some, None, Ok, Err, refl, ap, arith}
use Rattle.std.specs.Result.{result_ok}
use Rattle.serde_json.specs.Data.{unsigned, negative, Data}
use Rattle.serde_json.specs.Data as json
use Rattle.jskw_value.specs.Decimal.{coefficient, value}
use Rattle.jskw_value.specs.Number.{Num, is_multiple_of}
use Rattle.jskw_value.specs.Pointer.{Pointer}
use Rattle.jskw_value.specs.Tree.{Tree, number, as_number}
use Rattle.jskw_value.specs.declared.decimal.Decimal.{Decimal}
use Rattle.jskw_report.specs.KeywordValue.{Refusal, wrong, size_value, limit_value, divisor_value}
use Rattle.jskw_report.specs.Holds.{multiple_holds}
use Rattle.jskw_report.specs.Kind.{ExclusiveMinimum}

-- what a decimal's `is_multiple_of` answers is what its tree says
pub divides_number : (m : ℕ) (t : Tree) (n : Num) (d : Decimal) → as_number t ≡ Some n → value d ≡ n
    → multiple_holds m t ≡ is_multiple_of (coefficient d) d.scale m
divides_number m (number x) n d h e = let same : x ≡ value d = cc in ap (λ y. multiple_holds m (number y)) same
divides_number m _ n d h e = cc

pub divides_other : (m : ℕ) (t : Tree) → as_number t ≡ None → multiple_holds m t ≡ true
divides_other m (number x) h = cc
divides_other m _ h = refl

-- `multipleOf` of a number, and of what is none
pub ruleset divides = (divides_number, divides_other)

-- a size above 0 is a divisor
pub divisor_above_0 : (q : Pointer) (d : Data) (n : ℕ) → result_ok (size_value [] d) ≡ Some n → 0 < n
    → divisor_value q d ≡ Ok n
divisor_above_0 q (json.number (unsigned (suc k))) n h p = ap Ok cc
divisor_above_0 q (json.number (unsigned zero)) n h p = let none : 0 ≡ n = cc in absurd (omega (arith, none, p))
divisor_above_0 q _ n h p = cc

pub divisor_of_0 : (q : Pointer) (d : Data) (n : ℕ) → result_ok (size_value [] d) ≡ Some n → n ≤ 0
    → divisor_value q d ≡ wrong (ExclusiveMinimum (pos 0)) q d
divisor_of_0 q (json.number (unsigned zero)) n h p = refl
divisor_of_0 q (json.number (unsigned (suc k))) n h p = let some : suc k ≡ n = cc in absurd (omega (arith, some, p))
divisor_of_0 q _ n h p = cc

-- neither is a whole number that is no size
pub divisor_below_0 : (q : Pointer) (d : Data) (z : ℤ) → limit_value q d ≡ Ok z → result_ok (size_value [] d) ≡ None
    → divisor_value q d ≡ wrong (ExclusiveMinimum (pos 0)) q d
divisor_below_0 q (json.number (negative z)) w h e = refl
divisor_below_0 q (json.number (unsigned n)) w h e = cc
divisor_below_0 q _ w h e = cc

-- what is no limit is no divisor
pub no_divisor : (q : Pointer) (d : Data) (e : Refusal) → limit_value q d ≡ Err e → divisor_value q d ≡ Err e
no_divisor q (json.number (json.float x)) e h = cc
no_divisor q (json.number (unsigned n)) e h = cc
no_divisor q (json.number (negative z)) e h = cc
no_divisor q _ e h = cc

-- each value of a schema as a divisor
pub ruleset divisors = (divisor_above_0, divisor_of_0, divisor_below_0, no_divisor)
