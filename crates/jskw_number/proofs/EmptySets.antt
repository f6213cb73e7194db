-- A set without types, and without numbers between its ends, is empty.
use Rattle.std.proofs.Common.{◌≡◌, ℕ, zero, suc, List, [], ◌∷◌, get_or, ◌&&◌, ◌||◌, ℤ, Bool, true, false, not}
use Rattle.std.proofs.Common.{if◌then◌else◌, Option, Some, None, refl, ap, ap₂, ◌∙◌, arith}
use Rattle.std.proofs.lemmas.Bool.{true≢false}
use Rattle.std.proofs.lemmas.Int.{ints}
use Rattle.std.specs.Bool.{beq}
use Rattle.std.specs.Cmp.Lexicographic.{pointwise}
use Rattle.std.specs.Option.{option_and_then, option_map_or}
use Rattle.std.specs.Prelude.{int_le, int_lt, replicate, ◌<ℤ◌}
use Rattle.jskw_value.specs.Number.{Num, i64_of, is_written_as_integer, written_integer}
use Rattle.jskw_value.specs.Tree.{Tree, null, boolean, number, string, array, object}
use Rattle.jskw_number.specs.declared.quick_set.integer_range.IntegerRange.{IntegerRange}
use Rattle.jskw_number.specs.declared.quick_set.QuickSet.{QuickSet}
use Rattle.jskw_number.specs.QuickSet.{divides, has_number, in_range, is_in, is_in_limits, is_in_types}
use Rattle.jskw_number.proofs.QuickSets.{no_fraction, nothing_enclosed}

-- no integer is between ends that are the other way round
no_number : (r : IntegerRange) → r.high <ℤ r.low → (n : Num) → has_number r n ≡ false
no_number r h n = of_integer (option_and_then i64_of (written_integer n))
  where
    go : (z : ℤ) (x y d : Bool) → int_le r.low z ≡ x → int_le z r.high ≡ y → (x && y && d) ≡ false
    go z true true d e f = absurd (omega (arith, ints, e, f, h))
    go z true false d e f = refl
    go z false y d e f = refl

    of_integer : (o : Option ℤ) → option_map_or (in_range r) o false ≡ false
    of_integer None = refl
    of_integer (Some z) = go z _ _ (divides r.divisor z) refl refl

-- all elements of a list that equals one of `false` are false
all_false : (n : ℕ) (bs : List Bool) → not (pointwise beq bs (replicate n false)) ≡ false → (i : ℕ)
    → get_or bs i false ≡ false
all_false n [] e i = refl
all_false zero (b ∷ bs) e i = absurd (true≢false e)
all_false (suc n) (true ∷ bs) e i = absurd (true≢false e)
all_false (suc n) (false ∷ bs) e zero = refl
all_false (suc n) (false ∷ bs) e (suc i) = all_false n bs e i

-- a set of no type has at most the numbers of its range
pub nothing_in : (q : QuickSet) → not (pointwise beq q.types (replicate 6 false)) ≡ false
    → (q.is_limited ≡ true → int_lt q.integers.high q.integers.low ≡ true) → (t : Tree) → is_in q t ≡ false
nothing_in q same ends (number n) = go q.is_limited refl
  where
    go : (b : Bool) → q.is_limited ≡ b → (if b then is_in_limits q n else is_in_types q n) ≡ false
    go true e =
        let turned : q.integers.high <ℤ q.integers.low = omega (arith, ints, ends e) in
        ap₂ (λ a b. (q.has_fractions && a) || b) (no_fraction q.integers (nothing_enclosed q.integers turned) n)
        (no_number q.integers turned n) ∙ nothing q.has_fractions
      where
        nothing : (b : Bool) → ((b && false) || false) ≡ false
        nothing true = refl
        nothing false = refl
    go false e = ap (λ a. a && (q.has_fractions || is_written_as_integer n)) (all_false 6 q.types same 2)
nothing_in q same ends null = all_false 6 q.types same 0
nothing_in q same ends (boolean b) = all_false 6 q.types same 1
nothing_in q same ends (string s) = all_false 6 q.types same 3
nothing_in q same ends (array ts) = all_false 6 q.types same 4
nothing_in q same ends (object ms) = all_false 6 q.types same 5
