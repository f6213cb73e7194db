-- Relations of numbers by how they are ordered.
use Rattle.std.proofs.Common.{◌≡◌, ℤ, pos, Bool, true, false, cond, Some, None, refl, ap, sym, arith, ◌^◌, ◌*ℤ◌}
use Rattle.std.specs.declared.cmp.Ordering.TheVariants.{Less, Equal, Greater}
use Rattle.std.specs.Ordering.{int_cmp, is_lt, is_le, is_gt, is_ge}
use Rattle.std.specs.Option.{option_map_or}
use Rattle.std.specs.Prelude.{int_le, int_lt}
use Rattle.std.proofs.lemmas.Int.{ints}
use Rattle.jskw_value.specs.Decimal.{coefficient, value}
use Rattle.jskw_value.specs.Number.{Num, exact, cmp_whole}
use Rattle.jskw_value.specs.Tree.{Tree, number, as_number}
use Rattle.jskw_value.specs.declared.decimal.Decimal.{Decimal}
use Rattle.jskw_report.specs.Holds.{limit_holds}
use Rattle.jskw_report.specs.Keyword.{Relation, Minimum, Maximum, ExclusiveMinimum, ExclusiveMaximum}
use Rattle.jskw_number.specs.Limit.{allows, stands_to}

-- what a decimal's `cmp_whole` answers is how its tree stands to the whole number
pub stands_number : (t : Tree) (n : Num) (d : Decimal) (z : ℤ) → as_number t ≡ Some n → value d ≡ n
    → stands_to z t ≡ Some (cmp_whole (coefficient d) d.scale z)
stands_number (number x) n d z h e = let same : x ≡ value d = cc in ap (λ y. stands_to z (number y)) same
stands_number _ n d z h e = cc

pub stands_other : (t : Tree) (z : ℤ) → as_number t ≡ None → stands_to z t ≡ None
stands_other (number x) z h = cc
stands_other _ z h = refl

-- a number stands to it as its tree does
pub stands_as_number : (t : Tree) (n : Num) (z : ℤ) → as_number t ≡ Some n → stands_to z (number n) ≡ stands_to z t
stands_as_number (number x) n z h = cc
stands_as_number _ n z h = cc

is_ge_of : (a b : ℤ) (x y z : Bool) → int_lt a b ≡ x → int_lt b a ≡ y → int_le b a ≡ z
    → is_ge (cond x Less (cond y Greater Equal)) ≡ z
is_ge_of a b true y true p q r = absurd (omega (arith, ints))
is_ge_of a b true y false p q r = refl
is_ge_of a b false true true p q r = refl
is_ge_of a b false false true p q r = refl
is_ge_of a b false y false p q r = absurd (omega (arith, ints))

is_le_of : (a b : ℤ) (x y z : Bool) → int_lt a b ≡ x → int_lt b a ≡ y → int_le a b ≡ z
    → is_le (cond x Less (cond y Greater Equal)) ≡ z
is_le_of a b true y true p q r = refl
is_le_of a b true y false p q r = absurd (omega (arith, ints))
is_le_of a b false true true p q r = absurd (omega (arith, ints))
is_le_of a b false true false p q r = refl
is_le_of a b false false true p q r = refl
is_le_of a b false false false p q r = absurd (omega (arith, ints))

is_gt_of : (a b : ℤ) (x y : Bool) → int_lt a b ≡ x → int_lt b a ≡ y → is_gt (cond x Less (cond y Greater Equal)) ≡ y
is_gt_of a b true true p q = absurd (omega (arith, ints))
is_gt_of a b true false p q = refl
is_gt_of a b false true p q = refl
is_gt_of a b false false p q = refl

is_lt_of : (a b : ℤ) (x y : Bool) → is_lt (cond x Less (cond y Greater Equal)) ≡ x
is_lt_of a b true y = refl
is_lt_of a b false true = refl
is_lt_of a b false false = refl

-- integers by their order and by their relation
pub order_ge : (a b : ℤ) → is_ge (int_cmp a b) ≡ int_le b a
order_ge a b = is_ge_of a b _ _ _ refl refl refl

pub order_le : (a b : ℤ) → is_le (int_cmp a b) ≡ int_le a b
order_le a b = is_le_of a b _ _ _ refl refl refl

-- a number is within a limit where its order to it is allowed
pub by_order : (r : Relation) (z : ℤ) (t : Tree) → limit_holds r z t ≡ option_map_or (allows r) (stands_to z t) true
by_order Minimum z (number (exact c k)) = let m : ℤ = z *ℤ pos (10 ^ k) in
    sym (is_ge_of c m (int_lt c m) (int_lt m c) (int_le m c) refl refl refl)
by_order Maximum z (number (exact c k)) = let m : ℤ = z *ℤ pos (10 ^ k) in
    sym (is_le_of c m (int_lt c m) (int_lt m c) (int_le c m) refl refl refl)
by_order ExclusiveMinimum z (number (exact c k)) = let m : ℤ = z *ℤ pos (10 ^ k) in
    sym (is_gt_of c m (int_lt c m) (int_lt m c) refl refl)
by_order ExclusiveMaximum z (number (exact c k)) = let m : ℤ = z *ℤ pos (10 ^ k) in
    sym (is_lt_of c m (int_lt c m) (int_lt m c))
by_order _ z _ = refl

-- every limit holds of what is no number
pub limit_other : (r : Relation) (z : ℤ) (t : Tree) → as_number t ≡ None → limit_holds r z t ≡ true
limit_other r z (number x) h = cc
limit_other r z _ h = refl

-- a limit's test, of a number that is an integer of its type, of any other, and of what is none
pub ruleset holding = (by_order, stands_as_number, stands_number, stands_other)
