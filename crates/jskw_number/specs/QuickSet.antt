-- Sets of values that a few instructions test, and what they say of a keyword.
use Rattle.std.specs.Int.NonZero.{non_zero_u64_get}
use Rattle.std.specs.Option.{option_and_then, option_map_or}
use Rattle.std.specs.Prelude.{◌≡◌, ℕ, zero, suc, List, [], ◌∷◌, get_or, if◌then◌else◌, ℤ, int_le, unsigned_abs, ◌%◌}
use Rattle.std.specs.Prelude.{◌==◌, ◌&&◌, ◌||◌, Bool, true, false, pos, ◌^◌, ◌*ℤ◌, ◌≤ℤ◌, ◌+◌, ◌≤◌, drop}
use Rattle.std.specs.Prelude.{length, nat_le}
use Rattle.std.specs.declared.num.NonZeroU64.{NonZeroU64}
use Rattle.jskw_value.specs.Number.{Num, exact, float, i64_of, is_written_as_integer, u64_of, written_integer}
use Rattle.jskw_value.specs.Tree.{Tree, number}
use Rattle.jskw_value.specs.Types.{json_type}
use Rattle.jskw_value.specs.declared.types.JsonType.{JsonType}
use Rattle.jskw_value.specs.declared.types.JsonType.TheVariants.{Array, Boolean, Integer, Null, Number, Object, String}
use Rattle.jskw_report.specs.Holds.{keyword_holds}
use Rattle.jskw_report.specs.Keyword.{Keyword}
use Rattle.jskw_number.specs.declared.quick_set.integer_range.IntegerRange.{IntegerRange}
use Rattle.jskw_number.specs.declared.quick_set.number_test.Naturals.{Naturals}
use Rattle.jskw_number.specs.declared.quick_set.QuickSet.{QuickSet}

-- z divided by the divisor is an integer
abbrev pub divides : NonZeroU64 → ℤ → Bool
divides d z = unsigned_abs z % non_zero_u64_get d == 0

-- z is between the bounds, and a multiple of the divisor
abbrev pub in_range : IntegerRange → ℤ → Bool
in_range r z = int_le r.low z && int_le z r.high && divides r.divisor z

-- the number is an integer of the range that is written without a fraction
abbrev pub has_number : IntegerRange → Num → Bool
has_number r n = option_map_or (in_range r) (option_and_then i64_of (written_integer n)) false

-- k is one of these integers
abbrev pub in_naturals : Naturals → ℕ → Bool
in_naturals m k = nat_le m.first k && nat_le k m.last

-- the number is written without a fraction, is from 0 to 2^64 - 1, and passes the check
abbrev pub has_natural : (ℕ → Bool) → Num → Bool
has_natural check n = option_map_or check (option_and_then u64_of (written_integer n)) false

-- the number is between the ends of the range
abbrev pub encloses : IntegerRange → Num → Bool
encloses r (exact c k) = int_le (r.low *ℤ pos (10 ^ k)) c && int_le c (r.high *ℤ pos (10 ^ k))
encloses r float = false

-- the number is written with a fraction, and between the ends of the range
abbrev pub has_fraction : IntegerRange → Num → Bool
has_fraction r (exact c zero) = false
has_fraction r (exact c (suc k)) = encloses r (exact c (suc k))
has_fraction r float = false

-- both ends of the range are between those of the other
abbrev pub IsNarrower : IntegerRange → IntegerRange → Type 0
IsNarrower r s = (s.low ≤ℤ r.low) × (r.high ≤ℤ s.high)

-- the place of a type in a set
abbrev pub type_index : JsonType → ℕ
type_index Null = 0
type_index Boolean = 1
type_index Integer = 2
type_index Number = 2
type_index String = 3
type_index Array = 4
type_index Object = 5

-- values of the tree's type are in the set
abbrev pub has_type : QuickSet → Tree → Bool
has_type q t = get_or q.types (type_index (json_type t)) false

-- the number is in the range of the set, or has a fraction and is between the ends
abbrev pub is_in_limits : QuickSet → Num → Bool
is_in_limits q n = (q.has_fractions && has_fraction q.integers n) || has_number q.integers n

-- the number is in the set, if this is not limited: by its type, but with a fraction only if the set has fractions
abbrev pub is_in_types : QuickSet → Num → Bool
is_in_types q n = has_type q (number n) && (q.has_fractions || is_written_as_integer n)

-- the tree is in the set: a number as above, and all else by its type
abbrev pub is_in : QuickSet → Tree → Bool
is_in q (number n) = if q.is_limited then is_in_limits q n else is_in_types q n
is_in q t = has_type q t

-- the number of elements before the first that fails the check
abbrev pub leading : {A : Type 0} → (A → Bool) → List A → ℕ
leading check [] = 0
leading check (x ∷ xs) = if check x then suc (leading check xs) else 0

-- the trees from one index up to another are in the set
abbrev pub IsBehind : QuickSet → List Tree → ℕ → ℕ → Type 0
IsBehind q ts from to =
    (to + leading (is_in q) (drop to ts) ≡ from + leading (is_in q) (drop from ts)) × (to ≤ length ts)

-- the keyword holds of every tree of the set
abbrev pub Accepts : QuickSet → Keyword → Type 0
Accepts q k = (t : Tree) → is_in q t ≡ true → keyword_holds k t ≡ true
