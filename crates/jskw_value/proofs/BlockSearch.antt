-- What a search for the items of a block knows, one item on.
use Rattle.std.proofs.Common.{◌≡◌, ℕ, zero, suc, ◌+◌, ◌*◌, ◌<◌, ◌≤◌, ◌==◌, min, List, [], ◌∷◌, length, get_or, drop}
use Rattle.std.proofs.Common.{not, ◌&&◌, true, false, Some, slice_get, refl, sym, ap, subst, ◌∙◌, inl, inr, ◌⊎◌, ◌≢◌}
use Rattle.std.proofs.Common.{arith}
use Rattle.std.specs.List.{list_any}
use Rattle.std.proofs.lemmas.Bool.{both_ways, cases_lt, false_from_ne_true}
use Rattle.std.proofs.lemmas.Bool.Decides.{eqb_tells}
use Rattle.std.proofs.lemmas.Option.{same_Some, slice_get_read, slice_get_within}
use Rattle.jskw_value.specs.Equality.{equal, unique}
use Rattle.jskw_value.specs.Fingerprint.{fingerprint, is_distinct_within}
use Rattle.jskw_value.specs.Sketch.{is_marked}
use Rattle.jskw_value.specs.Tree.{Tree}
use Rattle.jskw_value.specs.Unique.{IsNewAt, IsToldOf, IsUniqueIn}
use Rattle.jskw_value.proofs.Fingerprints.{equal_fingerprint}
use Rattle.jskw_value.proofs.UniqueItems.{none_passes, unique_means}

-- what stands at one index is one tree
pub one_tree : (ts : List Tree) (i j : ℕ) (t x : Tree) → slice_get ts i ≡ Some t → j ≡ i → slice_get ts j ≡ Some x
    → t ≡ x
one_tree ts i j t x e q f = same_Some t x (sym e ∙ subst (λ z. slice_get ts z ≡ Some x) q f)

-- an index below the next is this one or below it
pub below : (i n : ℕ) → i < n + 1 → (i ≡ n) ⊎ (i < n)
below i n h = go (eqb_tells i n)
  where
    go : (((i == n) ≡ true) × (i ≡ n)) ⊎ (((i == n) ≡ false) × (i ≢ n)) → (i ≡ n) ⊎ (i < n)
    go (inl t) = inl t.1
    go (inr t) = inr (omega (arith, t.1))

-- two equal items
twice : (ts : List Tree) (i j : ℕ) (t u : Tree) → i < j → slice_get ts i ≡ Some t → slice_get ts j ≡ Some u
    → equal t u ≡ true → unique ts ≡ false
twice ts i j t u l e f h =
    false_from_ne_true (unique ts) (λ w. both_ways (equal t u) ((unique_means ts).0 w i j t u l e f) h)

-- ---- the first item

-- it is equal to a later one
pub first_again : (ts : List Tree) (t : Tree) → 0 < length ts → t ≡ get_or ts 0 t
    → list_any (equal t) (drop 1 ts) ≡ true → unique ts ≡ false
first_again [] t l e h = absurd (omega arith)
first_again (x ∷ xs) t l e h = ap (λ b. not b && unique xs) (ap (λ y. list_any (equal y) xs) (sym e) ∙ h)

-- it isn't
pub first_new : (ts : List Tree) (t : Tree) → t ≡ get_or ts 0 t → list_any (equal t) (drop 1 ts) ≡ false
    → IsUniqueIn 0 1 ts
first_new ts t e h = record { differ = λ i j x y k l m a b. differ ts i j x y e h l m a b }
  where
    differ : (us : List Tree) (i j : ℕ) (x y : Tree) → t ≡ get_or us 0 t → list_any (equal t) (drop 1 us) ≡ false
        → i < 1 → i < j → slice_get us i ≡ Some x → slice_get us j ≡ Some y → equal x y ≡ false
    differ (u ∷ us) zero (suc j) x y e h l m a b =
        subst (λ z. equal z y ≡ false) (e ∙ same_Some u x a) (none_passes (equal t) us h j y b)
    differ (u ∷ us) zero zero x y e h l m a b = absurd (omega (arith, m))
    differ (u ∷ us) (suc i) j x y e h l m a b = absurd (omega (arith, l))
    differ [] i j x y e h l m a b = absurd (cc)

-- ---- one item beside those of a block

-- none is seen yet
pub new_start : (start index : ℕ) (ts : List Tree) → IsNewAt start start index ts
new_start start index ts = record { differs = λ i t u k l e f. absurd (omega (arith, k, l)) }

-- one more differs
pub new_step : (start j index : ℕ) (ts : List Tree) (t u : Tree) → j < index → index < length ts → t ≡ get_or ts j t
    → u ≡ get_or ts index u → equal t u ≡ false → IsNewAt start j index ts → IsNewAt start (j + 1) index ts
new_step start j index ts t u h k e f d n = record { differs = λ m x y l w a b. go m x y a b l (below m j w) }
  where
    at : slice_get ts j ≡ Some t
    at = slice_get_read ts (length ts) j t refl (omega (arith, h, k)) e

    here : slice_get ts index ≡ Some u
    here = slice_get_read ts (length ts) index u refl k f

    go : (m : ℕ) (x y : Tree) → slice_get ts m ≡ Some x → slice_get ts index ≡ Some y → start ≤ m → (m ≡ j) ⊎ (m < j)
        → equal x y ≡ false
    go m x y a b l (inl q) =
        subst (λ z. equal z y ≡ false) (one_tree ts j m t x at q a)
        (subst (λ z. equal t z ≡ false) (one_tree ts index index u y here refl b) d)
    go m x y a b l (inr q) = n.differs m x y l q a b

-- one is equal
pub is_twice : (j index : ℕ) (ts : List Tree) (t u : Tree) → j < index → index < length ts → t ≡ get_or ts j t
    → u ≡ get_or ts index u → equal t u ≡ true → unique ts ≡ false
is_twice j index ts t u h k e f d =
    twice ts j index t u h (slice_get_read ts (length ts) j t refl (omega (arith, h, k)) e)
    (slice_get_read ts (length ts) index u refl k f) d

-- ---- a block

-- no item is seen yet
pub told_start : (start end budget : ℕ) (s : List ℕ) (ts : List Tree) → IsToldOf start end budget start s ts
told_start start end budget s ts = record {
  marked = λ i t k l m e. absurd (omega (arith, k, m));
  distinct = λ i t k l e. absurd (omega (arith, k, l));
  differ = λ i j t u k l m o e f. absurd (omega (arith, k, m, o));
}

-- one item on, where it is marked if it is of the block, nothing marked is lost, and no earlier one of the block is
-- equal to it
told_step : (start end b n : ℕ) (s r : List ℕ) (ts : List Tree) (t : Tree) → slice_get ts n ≡ Some t
    → is_distinct_within b t ≡ true → (n < end → is_marked r (fingerprint 0 b t) ≡ true)
    → ((p : ℕ) → is_marked s p ≡ true → is_marked r p ≡ true)
    → ((i : ℕ) (x : Tree) → start ≤ i → i < end → i < n → slice_get ts i ≡ Some x → equal x t ≡ false)
    → IsToldOf start end b n s ts → IsToldOf start end b (n + 1) r ts
told_step start end b n s r ts t e d m kept new told = record {
  marked = λ i x k l o a. marked i x k l a (below i n o);
  distinct = λ i x k l a. distinct i x k a (below i n l);
  differ = λ i j x y k l o p a c. differ i j x y k l o a c (below j n p);
}
  where
    marked : (i : ℕ) (x : Tree) → start ≤ i → i < end → slice_get ts i ≡ Some x → (i ≡ n) ⊎ (i < n)
        → is_marked r (fingerprint 0 b x) ≡ true
    marked i x k l a (inl q) =
        subst (λ z. is_marked r (fingerprint 0 b z) ≡ true) (one_tree ts n i t x e q a) (m (subst (λ z. z < end) q l))
    marked i x k l a (inr q) = kept (fingerprint 0 b x) (told.marked i x k l q a)

    distinct : (i : ℕ) (x : Tree) → start ≤ i → slice_get ts i ≡ Some x → (i ≡ n) ⊎ (i < n)
        → is_distinct_within b x ≡ true
    distinct i x k a (inl q) = subst (λ z. is_distinct_within b z ≡ true) (one_tree ts n i t x e q a) d
    distinct i x k a (inr q) = told.distinct i x k q a

    differ : (i j : ℕ) (x y : Tree) → start ≤ i → i < end → i < j → slice_get ts i ≡ Some x → slice_get ts j ≡ Some y
        → (j ≡ n) ⊎ (j < n) → equal x y ≡ false
    differ i j x y k l o a c (inl q) =
        subst (λ z. equal x z ≡ false) (one_tree ts n j t y e q c) (new i x k l (subst (λ z. i < z) q o) a)
    differ i j x y k l o a c (inr q) = told.differ i j x y k l o q a c

-- an item that is marked, and that none of the block is equal to
pub told_again : (start end b n : ℕ) (s : List ℕ) (ts : List Tree) (t : Tree) → n < length ts → t ≡ get_or ts n t
    → is_distinct_within b t ≡ true → is_marked s (fingerprint 0 b t) ≡ true → IsNewAt start (min end n) n ts
    → IsToldOf start end b n s ts → IsToldOf start end b (n + 1) s ts
told_again start end b n s ts t h e d m new told =
    let at = slice_get_read ts (length ts) n t refl h e in
    told_step start end b n s s ts t at d (λ w. m) (λ p w. w)
    (λ i x k l o a. new.differs i x t k (omega (arith, l, o)) a at) told

-- an earlier one of the block that is equal would have marked an item
unmarked_new : (start end b n : ℕ) (s : List ℕ) (ts : List Tree) (t : Tree) → is_distinct_within b t ≡ true
    → is_marked s (fingerprint 0 b t) ≡ false → IsToldOf start end b n s ts
    → (i : ℕ) (x : Tree) → start ≤ i → i < end → i < n → slice_get ts i ≡ Some x → equal x t ≡ false
unmarked_new start end b n s ts t d unmarked told i x k l o a = false_from_ne_true (equal x t) (λ h.
    both_ways (is_marked s (fingerprint 0 b t)) unmarked
    (subst (λ p. is_marked s p ≡ true) (equal_fingerprint 0 b x t (told.distinct i x k o a) d h)
    (told.marked i x k l o a)))

-- an item that wasn't marked, and is now
pub told_new : (start end b n : ℕ) (s r : List ℕ) (ts : List Tree) (t : Tree) → n < length ts → t ≡ get_or ts n t
    → is_distinct_within b t ≡ true → is_marked s (fingerprint 0 b t) ≡ false → is_marked r (fingerprint 0 b t) ≡ true
    → ((p : ℕ) → is_marked s p ≡ true → is_marked r p ≡ true)
    → IsToldOf start end b n s ts → IsToldOf start end b (n + 1) r ts
told_new start end b n s r ts t h e d unmarked now kept told =
    told_step start end b n s r ts t (slice_get_read ts (length ts) n t refl h e) d (λ w. now) kept
    (unmarked_new start end b n s ts t d unmarked told) told

-- an item behind the block that isn't marked
pub told_later : (start end b n : ℕ) (s : List ℕ) (ts : List Tree) (t : Tree) → n < length ts → t ≡ get_or ts n t
    → is_distinct_within b t ≡ true → is_marked s (fingerprint 0 b t) ≡ false → end ≤ n
    → IsToldOf start end b n s ts → IsToldOf start end b (n + 1) s ts
told_later start end b n s ts t h e d unmarked l told =
    told_step start end b n s s ts t (slice_get_read ts (length ts) n t refl h e) d (λ w. absurd (omega (arith, w, l)))
    (λ p w. w) (unmarked_new start end b n s ts t d unmarked told) told

-- all items are seen
pub told_end : (start end b n : ℕ) (s : List ℕ) (ts : List Tree) → length ts ≤ n → IsToldOf start end b n s ts
    → IsUniqueIn start end ts
told_end start end b n s ts h told =
    record { differ = λ i j t u k l m a c. told.differ i j t u k l m (omega (arith, h, slice_get_within ts j u c)) a c }

-- ---- all blocks

-- one block more
pub one_block : (n m : ℕ) (ts : List Tree) → IsUniqueIn 0 n ts → IsUniqueIn n m ts → IsUniqueIn 0 m ts
one_block n m ts before here = record { differ = λ i j t u k l o a b. go i j t u l o a b (cases_lt i n) }
  where
    go : (i j : ℕ) (t u : Tree) → i < m → i < j → slice_get ts i ≡ Some t → slice_get ts j ≡ Some u → (i < n) ⊎ (n ≤ i)
        → equal t u ≡ false
    go i j t u l o a b (inl q) = before.differ i j t u (omega arith) q o a b
    go i j t u l o a b (inr q) = here.differ i j t u q l o a b

-- the same by the number of the block, behind the first item
pub next_block : (b size : ℕ) (ts : List Tree) → IsUniqueIn 0 (b * size + 1) ts
    → IsUniqueIn (b * size + 1) (b * size + 1 + size) ts → IsUniqueIn 0 ((b + 1) * size + 1) ts
next_block b size ts before here =
    subst (λ n. IsUniqueIn 0 n ts) (omega arith) (one_block (b * size + 1) (b * size + 1 + size) ts before here)

-- with the last block no two items are equal
pub last_block : (n m : ℕ) (ts : List Tree) → m ≡ length ts → IsUniqueIn 0 n ts → IsUniqueIn n m ts → unique ts ≡ true
last_block n m ts h before here = (unique_means ts).1 (λ i j t u k a b.
    (one_block n m ts before here).differ i j t u (omega arith) (omega (arith, h, slice_get_within ts i t a)) k a b)

pub ruleset told = (told_later, told_again, told_new)

pub ruleset search_steps = (new_start, new_step, is_twice)

pub ruleset blocks = (last_block, one_block)
