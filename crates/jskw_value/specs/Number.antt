-- Numbers (Core 4.2.1): a coefficient over a power of ten, or a float, of which nothing more is said.
use Rattle.std.specs.Prelude.{ℕ, zero, suc, ◌^◌, ◌*◌, ◌%◌, ◌==◌, ◌&&◌, ℤ, pos, negsuc, neg_ℤ, ◌*ℤ◌, Bool, true, false}
use Rattle.std.specs.Prelude.{nat_lt, nat_le, unsigned_abs, Option, Some, None, if◌then◌else◌}
use Rattle.std.specs.Ordering.{int_cmp, int_eq}
use Rattle.std.specs.declared.cmp.Ordering.{Ordering}

-- `exact c k` is c divided by 10^k, as it is written: 1.0 is `exact 10 1`
pub data Num : Type 0 where
  exact : ℤ → ℕ → Num
  float : Num

-- n or -n, by its sign
abbrev pub signed : Bool → ℕ → ℤ
signed negative n = if negative then neg_ℤ (pos n) else pos n

-- it is a decimal of some size, and no float
abbrev pub is_exact : Num → Bool
is_exact (exact c k) = true
is_exact float = false

-- the decimals: from -2^63 to 2^64 - 1, with at most 18 digits behind the point
abbrev pub is_decimal : ℤ → ℕ → Bool
is_decimal (pos n) k = nat_lt n (2 ^ 64) && nat_le k 18
is_decimal (negsuc n) k = nat_lt n (2 ^ 63) && nat_le k 18

-- the same mathematical value (Core 4.2.2)
abbrev pub num_equal : Num → Num → Bool
num_equal (exact c k) (exact d l) = int_eq (c *ℤ pos (10 ^ l)) (d *ℤ pos (10 ^ k))
num_equal (exact c k) float = false
num_equal float m = false

-- written alike
abbrev pub num_same : Num → Num → Bool
num_same (exact c k) (exact d l) = int_eq c d && (k == l)
num_same (exact c k) float = false
num_same float (exact d l) = false
num_same float float = true

-- ten to the scale divides the coefficient: a zero fractional part (Validation 6.1.1)
abbrev pub is_integer : Num → Bool
is_integer (exact c k) = unsigned_abs c % (10 ^ k) == 0
is_integer float = false

-- no digit behind the point
abbrev pub is_written_as_integer : Num → Bool
is_written_as_integer (exact c k) = k == 0
is_written_as_integer float = false

-- the coefficient, where it is written as an integer
abbrev pub written_integer : Num → Option ℤ
written_integer (exact c zero) = Some c
written_integer (exact c (suc k)) = None
written_integer float = None

-- from 0 to 2^64 - 1
abbrev pub u64_of : ℤ → Option ℕ
u64_of (pos n) = if nat_lt n (2 ^ 64) then Some n else None
u64_of (negsuc n) = None

-- from -2^63 to 2^63 - 1
abbrev pub i64_of : ℤ → Option ℤ
i64_of (pos n) = if nat_lt n (2 ^ 63) then Some (pos n) else None
i64_of (negsuc n) = if nat_lt n (2 ^ 63) then Some (negsuc n) else None

-- how c / 10^k stands to the whole number n (Validation 6.2.2 to 6.2.5)
abbrev pub cmp_whole : ℤ → ℕ → ℤ → Ordering
cmp_whole c k n = int_cmp c (n *ℤ pos (10 ^ k))

-- c / 10^k divided by m is an integer (Validation 6.2.1)
abbrev pub is_multiple_of : ℤ → ℕ → ℕ → Bool
is_multiple_of c k m = unsigned_abs c % (m * 10 ^ k) == 0
