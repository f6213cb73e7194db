-- Quick sets of what equals integers of a schema.
use Rattle.std.proofs.Common.{◌≡◌, ℕ, zero, suc, ◌<◌, ◌^◌, ℤ, pos, negsuc, ◌+ℤ◌, List, get_or, length, nat_lt}
use Rattle.std.proofs.Common.{Bool, true, false, ◌&&◌, if◌then◌else◌, Some, None, refl, sym, ap, subst, ◌∙◌, arith}
use Rattle.std.proofs.Math.IntN.{*ℤ-one, one}
use Rattle.std.proofs.lemmas.Bool.{and_parts, true≢false}
use Rattle.std.proofs.lemmas.Cmp.{int_eq_equiv}
use Rattle.std.proofs.lemmas.Int.{ints}
use Rattle.std.proofs.lemmas.List.Folds.{list_any_at}
use Rattle.std.specs.Option.{option_and_then, option_map_or}
use Rattle.std.specs.Ordering.{int_eq}
use Rattle.std.specs.Prelude.{int_le, is_none}
use Rattle.serde_json.specs.Data as json
use Rattle.serde_json.specs.Data.{Data}
use Rattle.jskw_value.specs.Equality.{equal}
use Rattle.jskw_value.specs.Number.{Num, exact, float, i64_of, num_equal, written_integer}
use Rattle.jskw_value.specs.Serde.{tree_of}
use Rattle.jskw_value.specs.Tree.{Tree, as_number, number}
use Rattle.jskw_number.specs.declared.quick_set.integer_range.IntegerRange.{IntegerRange}
use Rattle.jskw_number.specs.declared.quick_set.QuickSet.{QuickSet}
use Rattle.jskw_number.specs.QuickSet.{has_number, in_range, is_in}
use Rattle.jskw_number.proofs.QuickSets.{accepted_integers}
use Rattle.jskw_leaf.specs.Options.{has_integer, integer_of, some_integer}

-- ---- one integer

-- a value from which an integer is read is that number
integer_is : (d : Data) (z : ℤ) → integer_of d ≡ Some z → tree_of d ≡ number (exact z zero)
integer_is (json.number (json.unsigned k)) z h = go (nat_lt k (2 ^ 63)) h
  where
    go : (b : Bool) → (if b then Some (pos k) else None) ≡ Some z → number (exact (pos k) zero) ≡ number (exact z zero)
    go true e = cc
    go false e = cc
integer_is (json.number (json.negative w)) z h = cc
integer_is (json.number (json.float x)) z h = cc
integer_is d z h = cc

same_integers : (z w : ℤ) → num_equal (exact z zero) (exact w zero) ≡ int_eq z w
unfolding one
same_integers z w = rw (*ℤ-one z, *ℤ-one w) refl

equal_integer : (z w : ℤ) → z ≡ w → num_equal (exact z zero) (exact w zero) ≡ true
equal_integer z w h = same_integers z w ∙ rw h (int_eq_equiv.refl w)

i64_is : (c w : ℤ) → i64_of c ≡ Some w → c ≡ w
i64_is (pos n) w h = go (nat_lt n (2 ^ 63)) h
  where
    go : (b : Bool) → (if b then Some (pos n) else None) ≡ Some w → pos n ≡ w
    go true e = cc
    go false e = cc
i64_is (negsuc n) w h = go (nat_lt n (2 ^ 63)) h
  where
    go : (b : Bool) → (if b then Some (negsuc n) else None) ≡ Some w → negsuc n ≡ w
    go true e = cc
    go false e = cc

-- two integers of 64 bits are compared as words
pub integers_equal : (d : Data) (t : Tree) (n : Num) (z w : ℤ) → integer_of d ≡ Some z → as_number t ≡ Some n
    → option_and_then i64_of (written_integer n) ≡ Some w → int_eq z w ≡ equal (tree_of d) t
integers_equal d (number (exact c zero)) n z w i e h =
    let same : n ≡ exact c zero = cc in
    let word : c ≡ w = i64_is c w (ap (λ m. option_and_then i64_of (written_integer m)) (sym same) ∙ h) in
    ap (int_eq z) (sym word) ∙ sym (same_integers z c)
    ∙ ap (λ u. equal u (number (exact c zero))) (sym (integer_is d z i))
integers_equal d (number (exact c (suc k))) n z w i e h =
    let same : n ≡ exact c (suc k) = cc in
    absurd (true≢false (ap is_none (ap (λ m. option_and_then i64_of (written_integer m)) (sym same) ∙ h)))
integers_equal d (number float) n z w i e h =
    let same : n ≡ float = cc in
    absurd (true≢false (ap is_none (ap (λ m. option_and_then i64_of (written_integer m)) (sym same) ∙ h)))
integers_equal d t n z w i e h = cc

-- the range has the integer alone
pub equal_to_one : (d : Data) (z : ℤ) (q : QuickSet) (g : IntegerRange) → integer_of d ≡ Some z
    → ((t : Tree) → is_in q t ≡ option_map_or (has_number g) (as_number t) false)
    → ((x : ℤ) → in_range g x ≡ (int_le z x && int_le x z))
    → (t : Tree) → is_in q t ≡ true → equal (tree_of d) t ≡ true
equal_to_one d z q g i e r =
    accepted_integers q g (equal (tree_of d)) e
    (λ x h. ap (λ u. equal u (number (exact x zero))) (integer_is d z i) ∙ equal_integer z x (between x h))
  where
    between : (x : ℤ) → in_range g x ≡ true → z ≡ x
    between x h = let ends = and_parts (int_le z x) (int_le x z) (sym (r x) ∙ h) in
        omega (arith, ints, ends.0, ends.1)

-- ---- integers without a gap

-- if the first is listed, so are all up to the last
abbrev pub AreListed : List ℤ → ℤ → ℤ → Type 0
AreListed zs first last =
    some_integer zs (exact first zero) ≡ true → (z : ℤ) → (int_le first z && int_le z last) ≡ true
    → some_integer zs (exact z zero) ≡ true

pub one_listed : (zs : List ℤ) (first : ℤ) → AreListed zs first first
one_listed zs first here z h =
    let ends = and_parts (int_le first z) (int_le z first) h in
    let same : first ≡ z = omega (arith, ints, ends.0, ends.1) in
    subst (λ x. some_integer zs (exact x zero) ≡ true) same here

pub next_listed : (zs : List ℤ) (first last : ℤ) (i : ℕ) (d : ℤ) → i < length zs → get_or zs i d ≡ last +ℤ pos 1
    → AreListed zs first last → AreListed zs first (last +ℤ pos 1)
next_listed zs first last i d l e all here z h = go (int_le z last) refl
  where
    go : (b : Bool) → int_le z last ≡ b → some_integer zs (exact z zero) ≡ true
    go true f = all here z (rw ((and_parts (int_le first z) (int_le z (last +ℤ pos 1)) h).0, f) refl)
    go false f =
        let below = (and_parts (int_le first z) (int_le z (last +ℤ pos 1)) h).1 in
        let same : last +ℤ pos 1 ≡ z = omega (arith, ints, f, below) in
        list_any_at (λ y. num_equal (exact y zero) (exact z zero)) zs i d l (equal_integer (get_or zs i d) z (e ∙ same))

pub listed_set : (zs : List ℤ) (q : QuickSet) (g : IntegerRange)
    → ((t : Tree) → is_in q t ≡ option_map_or (has_number g) (as_number t) false)
    → ((z : ℤ) → in_range g z ≡ true → some_integer zs (exact z zero) ≡ true)
    → (t : Tree) → is_in q t ≡ true → has_integer zs t ≡ true
listed_set zs q g e within = accepted_integers q g (has_integer zs) e within
