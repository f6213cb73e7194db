-- What sorted keys of items tell of the items.
use Rattle.std.proofs.Common.{◌≡◌, ℕ, ◌+◌, ◌-◌, ◌<◌, ◌≤◌, ◌==◌, min, List, length, get_or, set, Bool, ◌&&◌, true, false}
use Rattle.std.proofs.Common.{Some, slice_get, Result, Ok, Err, refl, ap, subst, ◌∙◌, inl, inr, ◌⊎◌, arith}
use Rattle.std.proofs.Math.Bool.{and_comm}
use Rattle.std.proofs.lemmas.Bool.{and_from, and_parts, both_ways, cases_lt, false_from_ne_true}
use Rattle.std.proofs.lemmas.Bool.Decides.{Decides-eqb}
use Rattle.std.proofs.lemmas.List.{get_or-set_same, get_or-set_other, get_or_default}
use Rattle.std.proofs.lemmas.List.Elements.{All-from_get_or}
use Rattle.std.proofs.lemmas.List.Sorted.{All-permutation, IsNonDecreasingBy-from_sort, IsPermutation-sym}
use Rattle.std.proofs.lemmas.List.Sorted.{length_permutation, searched}
use Rattle.std.proofs.lemmas.Map.Keys.{IsDistinct-IsPermutation, IsDistinct-from_apart, apart_from_distinct}
use Rattle.std.proofs.lemmas.Option.{slice_get_read, slice_get_within}
use Rattle.std.specs.List.{IsDistinct}
use Rattle.std.specs.List.Sorted.{IsBinarySearchResult, IsNonDecreasing, IsPermutation, IsSorted, IsStrictlyIncreasing}
use Rattle.std.specs.Ordering.{nat_cmp}
use Rattle.std.specs.Result.{is_ok}
use Rattle.jskw_value.specs.Doubt.{is_distinct_for, key}
use Rattle.jskw_value.specs.Equality.{equal}
use Rattle.jskw_value.specs.Sketch.{is_marked}
use Rattle.jskw_value.specs.Tree.{Tree}
use Rattle.jskw_value.specs.Unique.{AreKeysFrom, AreMarked, AreNewIn, AreSortedKeys, IsNewAt, IsNotAmong, IsOnceAtMost}
use Rattle.jskw_value.specs.Unique.{IsUniqueIn}
use Rattle.jskw_value.proofs.BlockSearch.{below, one_tree}
use Rattle.jskw_value.proofs.Keys.{equal_key}

-- ---- as they are written

-- none yet
pub no_key : (seed : ℕ) (marks : List ℕ) (start : ℕ) (ps : List ℕ) (ts : List Tree)
    → AreKeysFrom seed marks start 0 ps ts
no_key seed marks start ps ts =
    record { each = λ i t h e. absurd (omega (arith, h)); distinct = λ i t h e. absurd (omega (arith, h)) }

-- one more
pub next_key : (seed : ℕ) (marks : List ℕ) (start n p : ℕ) (ps : List ℕ) (ts : List Tree) (t : Tree)
    → p ≡ key seed marks t → n < length ps
    → start + n < length ts → t ≡ get_or ts (start + n) t → is_distinct_for marks t ≡ true
    → AreKeysFrom seed marks start n ps ts
    → AreKeysFrom seed marks start (n + 1) (set ps n p) ts
next_key seed marks start n p ps ts t same h k e d known =
    record { each = λ i x l a. each i x a (below i n l); distinct = λ i x l a. distinct i x a (below i n l) }
  where
    at : slice_get ts (start + n) ≡ Some t
    at = slice_get_read ts (length ts) (start + n) t refl k e

    each : (i : ℕ) (x : Tree) → slice_get ts (start + i) ≡ Some x → (i ≡ n) ⊎ (i < n)
        → get_or (set ps n p) i 0 ≡ key seed marks x
    each i x a (inl q) =
        ap (λ j. get_or (set ps n p) j 0) q ∙ get_or-set_same ps n p 0 h ∙ same
        ∙ ap (key seed marks) (one_tree ts (start + n) (start + i) t x at (ap (λ j. start + j) q) a)
    each i x a (inr q) = get_or-set_other ps n i p 0 (λ w. omega (arith, q, w)) ∙ known.each i x q a

    distinct : (i : ℕ) (x : Tree) → slice_get ts (start + i) ≡ Some x → (i ≡ n) ⊎ (i < n)
        → is_distinct_for marks x ≡ true
    distinct i x a (inl q) =
        subst (λ z. is_distinct_for marks z ≡ true)
        (one_tree ts (start + n) (start + i) t x at (ap (λ j. start + j) q) a) d
    distinct i x a (inr q) = known.distinct i x q a

-- sorted
pub sorted_keys : (seed : ℕ) (marks : List ℕ) (start : ℕ) (ps qs : List ℕ) (ts : List Tree)
    → AreKeysFrom seed marks start (length ps) ps ts
    → IsPermutation ps qs → IsSorted nat_cmp qs → AreSortedKeys seed marks start qs ts
sorted_keys seed marks start ps qs ts known m s =
    record { in_order = ps; are_keys = known; permutation = m; sorted = IsNonDecreasingBy-from_sort (λ x. x) qs s }

-- ---- a number among sorted ones

-- it isn't found
pub not_found : (xs : List ℕ) (x : ℕ) (r : Result ℕ ℕ) → IsNonDecreasing xs
    → IsBinarySearchResult (λ y. nat_cmp y x) xs r
    → is_ok r ≡ false → IsNotAmong x xs
not_found xs x (Ok i) up s e = absurd (cc)
not_found xs x (Err i) up s e = λ k h f. go k h f (cases_lt k i)
  where
    found : (i ≤ length xs) × ((k : ℕ) → k < i → get_or xs k 0 < x)
        × ((k : ℕ) → i ≤ k → k < length xs → x < get_or xs k 0)
    found = searched xs x (Err i) s (λ i j l m. up i j 0 l m)

    go : (k : ℕ) → k < length xs → get_or xs k 0 ≡ x → (k < i) ⊎ (i ≤ k) → ⊥
    go k h f (inl l) = let b = found.1 k l in omega (arith, b, f)
    go k h f (inr l) = let b = found.2 k l h in omega (arith, b, f)

-- it is found, and neither neighbour is the same
pub found_once : (xs : List ℕ) (x at : ℕ) → IsNonDecreasing xs → at < length xs → get_or xs at 0 ≡ x
    → (0 < at → get_or xs (at - 1) 0 ≡ x → ⊥) → (at + 1 < length xs → get_or xs (at + 1) 0 ≡ x → ⊥) → IsOnceAtMost x xs
found_once xs x at up h e before after = λ i j l m f g. go i j l m f g (cases_lt i at)
  where
    go : (i j : ℕ) → i < j → j < length xs → get_or xs i 0 ≡ x → get_or xs j 0 ≡ x → (i < at) ⊎ (at ≤ i) → ⊥
    go i j l m f g (inl q) =
        let a = up i (at - 1) 0 (omega (arith, q)) (omega (arith, q, h)) in
        let b = up (at - 1) at 0 (omega arith) h in
        before (omega (arith, q)) (omega (arith, a, b, e, f))
    go i j l m f g (inr q) =
        let a = up at (at + 1) 0 (omega arith) (omega (arith, q, l, m)) in
        let b = up (at + 1) j 0 (omega (arith, q, l)) m in
        after (omega (arith, q, l, m)) (omega (arith, a, b, e, g))

-- no number of rising ones stands at two places
rising_once : (p : ℕ) (xs : List ℕ) → IsNonDecreasing xs → IsStrictlyIncreasing xs → IsOnceAtMost p xs
rising_once p xs up rises i j l h f g =
    let a = rises i (omega (arith, l, h)) in let b = up (i + 1) j 0 (omega (arith, l)) h in omega (arith, a, b, f, g)

-- what none of the sorted numbers is, none was before
not_before : (p : ℕ) (xs ys : List ℕ) → IsPermutation xs ys → IsNotAmong p ys → IsNotAmong p xs
not_before p xs ys m none i h =
    All-permutation (λ x. x ≡ p → ⊥) ys xs (IsPermutation-sym xs ys m)
    (All-from_get_or (λ x. x ≡ p → ⊥) ys 0 none) i 0 h

-- and what one of them is at most, one was at most
once_before : (p : ℕ) (xs ys : List ℕ) → IsPermutation xs ys → IsOnceAtMost p ys → IsOnceAtMost p xs
once_before p xs ys m once i j l h f g =
    both_ways (both (get_or xs i 0) (get_or xs j 0)) (apart_from_distinct both xs i j 0 distinct l h)
    (and_from _ _ ((Decides-eqb (get_or xs i 0) p).1 f) ((Decides-eqb (get_or xs j 0) p).1 g))
  where
    both : ℕ → ℕ → Bool
    both x y = (x == p) && (y == p)

    flips : (x y : ℕ) → both x y ≡ both y x
    flips x y = and_comm (x == p) (y == p)

    apart : (i j : ℕ) (d : ℕ) → i < j → j < length ys → both (get_or ys i d) (get_or ys j d) ≡ false
    apart i j d l h = false_from_ne_true (both (get_or ys i d) (get_or ys j d)) (λ w. once i j l h
        (get_or_default ys i 0 d (omega (arith, l, h))
        ∙ (Decides-eqb (get_or ys i d) p).0 (and_parts (get_or ys i d == p) (get_or ys j d == p) w).0)
        (get_or_default ys j 0 d h
        ∙ (Decides-eqb (get_or ys j d) p).0 (and_parts (get_or ys i d == p) (get_or ys j d == p) w).1))

    distinct : IsDistinct both xs
    distinct =
        IsDistinct-IsPermutation both flips ys xs (IsPermutation-sym xs ys m) (IsDistinct-from_apart both ys apart)

-- it isn't marked, where all of them are
pub not_marked : (xs sketch : List ℕ) (x : ℕ) → AreMarked (length xs) xs sketch → is_marked sketch x ≡ false
    → IsNotAmong x xs
not_marked xs sketch x marked e i h f =
    both_ways (is_marked sketch x) e (subst (λ y. is_marked sketch y ≡ true) f (marked i h))

-- ---- items by their keys

-- the key of an item, as it was written
written : (seed : ℕ) (marks : List ℕ) (start : ℕ) (ps : List ℕ) (ts : List Tree)
    (known : AreSortedKeys seed marks start ps ts) (i : ℕ) (t : Tree) → start ≤ i
    → i < start + length ps → slice_get ts i ≡ Some t
    → (i - start < length known.in_order) × (get_or known.in_order (i - start) 0 ≡ key seed marks t)
    × (is_distinct_for marks t ≡ true)
written seed marks start ps ts known i t l h e =
    (within, known.are_keys.each (i - start) t within here, known.are_keys.distinct (i - start) t within here)
  where
    within : i - start < length known.in_order
    within = let n = length_permutation known.in_order ps known.permutation in omega (arith, n, l, h)

    place : i ≡ start + (i - start)
    place = omega (arith, l)

    here : slice_get ts (start + (i - start)) ≡ Some t
    here = subst (λ j. slice_get ts j ≡ Some t) place e

-- two items with a key that stands there once at most
differ_once : (seed : ℕ) (marks : List ℕ) (start : ℕ) (ps : List ℕ) (ts : List Tree)
    → AreSortedKeys seed marks start ps ts → (i j : ℕ) (t u : Tree) → start ≤ i
    → i < j → j < start + length ps → slice_get ts i ≡ Some t → slice_get ts j ≡ Some u
    → IsOnceAtMost (key seed marks u) ps
    → equal t u ≡ false
differ_once seed marks start ps ts known i j t u l h m e f once = false_from_ne_true (equal t u) (λ w.
    once_before (key seed marks u) known.in_order ps known.permutation once (i - start) (j - start)
    (omega (arith, l, h)) there.0
    (here.1 ∙ equal_key seed marks t u here.2 there.2 w) there.1)
  where
    here : (i - start < length known.in_order) × (get_or known.in_order (i - start) 0 ≡ key seed marks t)
        × (is_distinct_for marks t ≡ true)
    here = written seed marks start ps ts known i t l (omega (arith, h, m)) e

    there : (j - start < length known.in_order) × (get_or known.in_order (j - start) 0 ≡ key seed marks u)
        × (is_distinct_for marks u ≡ true)
    there = written seed marks start ps ts known j u (omega (arith, l, h)) m f

-- an item with a key that isn't there
differ_other : (seed : ℕ) (marks : List ℕ) (start : ℕ) (ps : List ℕ) (ts : List Tree)
    → AreSortedKeys seed marks start ps ts → (i : ℕ) (t u : Tree) → start ≤ i
    → i < start + length ps → slice_get ts i ≡ Some t → is_distinct_for marks u ≡ true
    → IsNotAmong (key seed marks u) ps
    → equal t u ≡ false
differ_other seed marks start ps ts known i t u l h e d none = false_from_ne_true (equal t u) (λ w.
    not_before (key seed marks u) known.in_order ps known.permutation none (i - start) here.0
    (here.1 ∙ equal_key seed marks t u here.2 d w))
  where
    here : (i - start < length known.in_order) × (get_or known.in_order (i - start) 0 ≡ key seed marks t)
        × (is_distinct_for marks t ≡ true)
    here = written seed marks start ps ts known i t l h e

-- ---- item by item

-- none is seen yet
pub none_new : (start end low : ℕ) (ts : List Tree) → AreNewIn start end low low ts
none_new start end low ts = record { differ = λ i j t u a b c d e f g. absurd (omega (arith, d, e)) }

-- one more is equal to none before it
pub next_new : (start end low n stop : ℕ) (ts : List Tree) → min end n ≤ stop → IsNewAt start stop n ts
    → AreNewIn start end low n ts → AreNewIn start end low (n + 1) ts
next_new start end low n stop ts l new known =
    record { differ = λ i j t u a b c d e f g. go i j t u a b c d f g (below j n e) }
  where
    go : (i j : ℕ) (t u : Tree) → start ≤ i → i < end → i < j → low ≤ j → slice_get ts i ≡ Some t
        → slice_get ts j ≡ Some u → (j ≡ n) ⊎ (j < n) → equal t u ≡ false
    go i j t u a b c d f g (inl q) =
        new.differs i t u a (omega (arith, l, b, c, q)) f (subst (λ z. slice_get ts z ≡ Some u) q g)
    go i j t u a b c d f g (inr q) = known.differ i j t u a b c d q f g

-- all are seen
pub all_new : (start end low n m : ℕ) (ts : List Tree) → m ≤ n → AreNewIn start end low n ts
    → AreNewIn start end low m ts
all_new start end low n m ts l known =
    record { differ = λ i j t u a b c d e f g. known.differ i j t u a b c d (omega (arith, e, l)) f g }

-- since its key is there once at most
pub next_once : (seed : ℕ) (marks : List ℕ) (start end n p : ℕ) (ps : List ℕ) (ts : List Tree) (t : Tree)
    → AreSortedKeys seed marks start ps ts
    → end ≡ start + length ps → n < end → end ≤ length ts → t ≡ get_or ts n t → p ≡ key seed marks t → IsOnceAtMost p ps
    → AreNewIn start end start n ts → AreNewIn start end start (n + 1) ts
next_once seed marks start end n p ps ts t known whole h k e same once before =
    next_new start end start n n ts (omega arith) (record { differs = λ i x y l m a b. differs i x y l m a b }) before
  where
    at : slice_get ts n ≡ Some t
    at = slice_get_read ts (length ts) n t refl (omega (arith, h, k)) e

    differs : (i : ℕ) (x y : Tree) → start ≤ i → i < n → slice_get ts i ≡ Some x → slice_get ts n ≡ Some y
        → equal x y ≡ false
    differs i x y l m a b = differ_once seed marks start ps ts known i n x y l m (omega (arith, h, whole)) a b
        (subst (λ q. IsOnceAtMost q ps) (same ∙ ap (key seed marks) (one_tree ts n n t y at refl b)) once)

-- since its key isn't there
pub next_other : (seed : ℕ) (marks : List ℕ) (start end n p : ℕ) (ps : List ℕ) (ts : List Tree) (t : Tree)
    → AreSortedKeys seed marks start ps ts
    → end ≡ start + length ps → n < length ts → t ≡ get_or ts n t → p ≡ key seed marks t
    → is_distinct_for marks t ≡ true → IsNotAmong p ps → AreNewIn start end end n ts → AreNewIn start end end (n + 1) ts
next_other seed marks start end n p ps ts t known whole k e same d none before =
    next_new start end end n end ts (omega arith) (record { differs = λ i x y l m a b. differs i x y l m a b }) before
  where
    at : slice_get ts n ≡ Some t
    at = slice_get_read ts (length ts) n t refl k e

    differs : (i : ℕ) (x y : Tree) → start ≤ i → i < end → slice_get ts i ≡ Some x → slice_get ts n ≡ Some y
        → equal x y ≡ false
    differs i x y l m a b = subst (λ z. equal x z ≡ false) (one_tree ts n n t y at refl b)
        (differ_other seed marks start ps ts known i x t l (omega (arith, m, whole)) a d
        (subst (λ q. IsNotAmong q ps) same none))

-- all at once, where no key is there twice
pub rising_new : (seed : ℕ) (marks : List ℕ) (start end : ℕ) (ps : List ℕ) (ts : List Tree)
    → AreSortedKeys seed marks start ps ts → end ≡ start + length ps
    → IsStrictlyIncreasing ps → AreNewIn start end start end ts
rising_new seed marks start end ps ts known whole rises = record {
  differ = λ i j t u a b c d e f g.
      differ_once seed marks start ps ts known i j t u a c (omega (arith, e, whole)) f g
      (rising_once (key seed marks u) ps known.sorted rises);
}

-- ---- block by block

-- those of a block differ from each other and from all later ones
pub unique_block : (start end : ℕ) (ts : List Tree) → AreNewIn start end start end ts
    → AreNewIn start end end (length ts) ts
    → IsUniqueIn start end ts
unique_block start end ts here later = record { differ = λ i j t u a b c e f. go i j t u a b c e f (cases_lt j end) }
  where
    go : (i j : ℕ) (t u : Tree) → start ≤ i → i < end → i < j → slice_get ts i ≡ Some t → slice_get ts j ≡ Some u
        → (j < end) ⊎ (end ≤ j) → equal t u ≡ false
    go i j t u a b c e f (inl q) = here.differ i j t u a b c (omega (arith, a, c)) q e f
    go i j t u a b c e f (inr q) = later.differ i j t u a b c q (slice_get_within ts j u f) e f

-- no block is seen yet
pub no_block : (n : ℕ) (ts : List Tree) → IsUniqueIn n n ts
no_block n ts = record { differ = λ i j t u a b c e f. absurd (omega (arith, a, b)) }

pub ruleset by_block = (sorted_keys, unique_block, none_new)
