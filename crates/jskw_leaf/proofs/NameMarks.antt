-- Names marked by the bits of a number.
use Rattle.std.proofs.Common.{◌≡◌, ◌≢◌, ℕ, ◌+◌, ◌-◌, ◌<◌, ◌≤◌, ◌==◌, ◌^◌, max, List, [], ◌∷◌, length, get_or, drop}
use Rattle.std.proofs.Common.{Bool, true, false, ◌||◌, cond, Some, slice_get, bit_or, refl, sym, ap, ◌∙◌, inl, inr}
use Rattle.std.proofs.Common.{arith}
use Rattle.std.proofs.lemmas.Bool.{both_ways, cases_eq, cases_order, false_from_ne_true}
use Rattle.std.proofs.lemmas.Cmp.{nat_list_eq_equiv}
use Rattle.std.proofs.lemmas.List.{at_drop_all, drop_more}
use Rattle.std.proofs.lemmas.List.Sorted.{list_any-IsPermutation}
use Rattle.std.proofs.lemmas.Map.Keys.{any_passes_from_place, apart_from_distinct}
use Rattle.std.proofs.lemmas.Nat.Bits.{bit_at_or, bit_at-zero, bit_at-pow_same, bit_at-pow_other, bit_at_ones}
use Rattle.std.proofs.lemmas.Option.{get_or_from_slice_get, slice_get-get_or, slice_get_within}
use Rattle.std.proofs.lemmas.Slice.Eq.{bytes_eq-Decides}
use Rattle.std.specs.Int.{bit_at}
use Rattle.std.specs.List.{IsDistinct}
use Rattle.std.specs.List.Sorted.{IsPermutation}
use Rattle.std.specs.Str.{bytes_eq}
use Rattle.jskw_value.specs.Tree.{Tree, has_name, names}
use Rattle.jskw_leaf.specs.Options.{some_text}
use Rattle.jskw_leaf.specs.Required.{is_among, MarksNames}

-- ---- the place of a name

pub place_step : (ws : List (List ℕ)) (k : List ℕ) (i : ℕ) (w : List ℕ) → i < length ws → w ≡ get_or ws i w
    → is_among (drop i ws) k ≡ (bytes_eq k w || is_among (drop (i + 1) ws) k)
place_step ws k i w h e =
    ap (λ xs. is_among xs k) (drop_more ws i w h) ∙ ap (λ x. bytes_eq k x || is_among (drop (i + 1) ws) k) (sym e)

pub place_end : (ws : List (List ℕ)) (k : List ℕ) (n : ℕ) → length ws ≤ n → is_among (drop n ws) k ≡ false
place_end ws k n h = at_drop_all (λ xs. is_among xs k) ws n h

pub place_hit : (ws : List (List ℕ)) (k : List ℕ) (i : ℕ) (w : List ℕ) → i < length ws → w ≡ get_or ws i w
    → bytes_eq k w ≡ true → is_among (drop i ws) k ≡ true
place_hit ws k i w h e m = place_step ws k i w h e ∙ ap (λ b. b || is_among (drop (i + 1) ws) k) m

pub place_miss : (ws : List (List ℕ)) (k : List ℕ) (i : ℕ) (w : List ℕ) → i < length ws → w ≡ get_or ws i w
    → bytes_eq k w ≡ false → is_among (drop i ws) k ≡ is_among (drop (i + 1) ws) k
place_miss ws k i w h e m = place_step ws k i w h e ∙ ap (λ b. b || is_among (drop (i + 1) ws) k) m

pub place_found : (ws : List (List ℕ)) (i : ℕ) (w k : List ℕ) → i < length ws → w ≡ get_or ws i w → bytes_eq k w ≡ true
    → slice_get ws i ≡ Some k
place_found ws i w k h e m = slice_get-get_or ws i w h ∙ ap Some (sym e ∙ sym ((bytes_eq-Decides k w).0 m))

-- a table of the names tells
pub table_tells : (ws ts : List (List ℕ)) (k : List ℕ) → IsPermutation ws ts → some_text ts k ≡ is_among ws k
table_tells ws ts k h = sym (list_any-IsPermutation (λ w. bytes_eq w k) ws ts h) ∙ turned ws
  where
    turned : (ws : List (List ℕ)) → some_text ws k ≡ is_among ws k
    turned [] = refl
    turned (w ∷ ws) = rw (nat_list_eq_equiv.symm w k, turned ws) refl

-- ---- the bits

-- bit i tells whether the tree has the name at index i, or the name is still to come
abbrev pub MarksBefore : ℕ → List (List ℕ) → Tree → List (List ℕ) → Type 0
MarksBefore m rest t ws =
    (i : ℕ) (w : List ℕ) → slice_get ws i ≡ Some w
    → max (bit_at m i) (cond (is_among rest w) 1 0) ≡ cond (has_name t w) 1 0

-- the names at two indices of distinct names differ
apart_places : (ws : List (List ℕ)) (i j : ℕ) (w k : List ℕ) → IsDistinct bytes_eq ws → slice_get ws i ≡ Some w
    → slice_get ws j ≡ Some k → i ≢ j → bytes_eq w k ≡ false
apart_places ws i j w k d e f n = elim (cases_order i j) [
  | inl s ↦ absurd (n s)
  | inr (inl l) ↦ in_order i j w k l e f
  | inr (inr l) ↦ nat_list_eq_equiv.symm w k ∙ in_order j i k w l f e
]
  where
    in_order : (i j : ℕ) (w k : List ℕ) → i < j → slice_get ws i ≡ Some w → slice_get ws j ≡ Some k
        → bytes_eq w k ≡ false
    in_order i j w k l e f =
        rw (sym (get_or_from_slice_get ws i w [] e), sym (get_or_from_slice_get ws j k [] f))
        (apart_from_distinct bytes_eq ws i j [] d l (slice_get_within ws j k f))

-- a name that is none of the list differs from the one at an index
unwanted : (ws : List (List ℕ)) (i : ℕ) (w k : List ℕ) → is_among ws k ≡ false → slice_get ws i ≡ Some w
    → bytes_eq w k ≡ false
unwanted ws i w k h e =
    nat_list_eq_equiv.symm w k
    ∙ false_from_ne_true _ (λ m. both_ways _ h (any_passes_from_place (bytes_eq k) ws i w e m))

bit_of : (b : Bool) → cond b 1 0 ≤ 1
bit_of true = omega arith
bit_of false = omega arith

pub mark_start : (t : Tree) (ws : List (List ℕ)) → MarksBefore 0 (names t) t ws
mark_start t ws i w e = rw (bit_at-zero i) (omega arith)

pub mark_end : (m : ℕ) (t : Tree) (ws : List (List ℕ)) → MarksBefore m [] t ws → MarksNames m t ws
mark_end m t ws h i w e = let r = h i w e in omega (arith, r)

pub mark_miss : (m : ℕ) (k : List ℕ) (rest : List (List ℕ)) (t : Tree) (ws : List (List ℕ)) → is_among ws k ≡ false
    → MarksBefore m (k ∷ rest) t ws → MarksBefore m rest t ws
mark_miss m k rest t ws h before i w e = rw (unwanted ws i w k h e) at (before i w e)

pub mark_hit : (m j : ℕ) (k : List ℕ) (rest : List (List ℕ)) (t : Tree) (ws : List (List ℕ)) → IsDistinct bytes_eq ws
    → slice_get ws j ≡ Some k → MarksBefore m (k ∷ rest) t ws → MarksBefore (bit_or m (2 ^ j)) rest t ws
mark_hit m j k rest t ws d f before i w e = elim (cases_eq i j) [
  | inl is ↦
      let same : w ≡ k = cc in
      let marked : bit_at (2 ^ j) i ≡ 1 = rw is (bit_at-pow_same j) in
      let h = rw ((bytes_eq-Decides w k).1 same) at (before i w e) in
      rw (bit_at_or m (2 ^ j) i, marked) (omega (arith, h, bit_of (is_among rest w)))
  | inr other ↦
      let h = rw (apart_places ws i j w k d e f other) at (before i w e) in
      rw (bit_at_or m (2 ^ j) i, bit_at-pow_other j i other) (omega (arith, h))
]

pub mark_full : (m : ℕ) (rest : List (List ℕ)) (t : Tree) (ws : List (List ℕ)) → m ≡ 2 ^ length ws - 1
    → MarksBefore m rest t ws → MarksNames m t ws
mark_full m rest t ws e before i w at =
    let marked : bit_at m i ≡ 1 = rw e (bit_at_ones (length ws) i (slice_get_within _ i w at)) in
    let h = before i w at in
    omega (arith, marked, h, bit_of (is_among rest w))

-- what a bit says of the name at its index
pub marked_name : (m : ℕ) (t : Tree) (ws : List (List ℕ)) (i : ℕ) (d : List ℕ) → MarksNames m t ws → i < length ws
    → (bit_at m i == 1) ≡ has_name t (get_or ws i d)
marked_name m t ws i d h e =
    ap (λ n. n == 1) (h i (get_or ws i d) (slice_get-get_or ws i d e)) ∙ told (has_name t (get_or ws i d))
  where
    told : (b : Bool) → (cond b 1 0 == 1) ≡ b
    told true = refl
    told false = refl
