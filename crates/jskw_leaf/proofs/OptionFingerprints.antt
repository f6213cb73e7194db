-- What the fingerprints of options tell.
use Rattle.std.proofs.Common.{◌≡◌, ◌≢◌, ℕ, zero, suc, ◌+◌, ◌≤◌, ◌<◌, ◌==◌, List, [], ◌∷◌, ◌++◌, length, get_or, drop}
use Rattle.std.proofs.Common.{All, Bool, true, false, ◌&&◌, ◌||◌, sym, refl, ap, ◌∙◌, arith}
use Rattle.std.proofs.lemmas.Bool.{and_from, and_parts, both_ways, cond_both, eqb-true, eq-eqb, false_from_ne_true}
use Rattle.std.proofs.lemmas.Bool.{ltb-true, ltb-false, true_from_ne_false}
use Rattle.std.proofs.lemmas.List.{get_or-drop, length-drop}
use Rattle.std.proofs.lemmas.List.Elements.{All-from_get_or, All-tail}
use Rattle.std.proofs.lemmas.List.Filters.{All-dedup}
use Rattle.std.proofs.lemmas.List.Folds.{list_all-append, list_all_at, list_any_none}
use Rattle.std.proofs.lemmas.List.Sorted.{All-permutation, list_any-IsPermutation}
use Rattle.std.proofs.lemmas.List.Sums.{AllPass-from_list_all, list_all-from_AllPass}
use Rattle.std.specs.List.{list_all, dedup, dedup_from}
use Rattle.std.specs.List.Sorted.{IsNonDecreasingBy, IsPartitionPoint, IsPermutation}
use lib.Dec.{ltb}
use Rattle.serde_json.specs.Data.{Items, no_items, item}
use Rattle.jskw_value.specs.Equality.{equal}
use Rattle.jskw_value.specs.Fingerprint.{fingerprint, is_distinct_within, unlimited}
use Rattle.jskw_value.specs.Serde.{value_tree}
use Rattle.jskw_value.specs.Tree.{Tree}
use Rattle.jskw_value.specs.Types.{has_type_of, no_types}
use Rattle.jskw_value.specs.declared.types.JsonTypeSet.{JsonTypeSet}
use Rattle.jskw_value.proofs.AlikeTrees.{equal_trans}
use Rattle.jskw_value.proofs.Fingerprints.{equal_fingerprint}
use Rattle.jskw_report.specs.Holds.{is_option}
use Rattle.jskw_leaf.specs.Options.{AreOptions, only, option_types}
use Rattle.jskw_leaf.proofs.Options.{no_option}
use Rattle.jskw_leaf.specs.Values.{IsRun, has_value, is_fingerprinted, is_repeat}
use Rattle.jskw_leaf.specs.declared.enum_.values.FingerprintedValue.{FingerprintedValue}

-- ---- options in a table

-- in any order
pub fingerprinted_moved : (seed : ℕ) (os ps : List FingerprintedValue) → IsPermutation os ps
    → list_all (is_fingerprinted seed) os ≡ true → list_all (is_fingerprinted seed) ps ≡ true
fingerprinted_moved seed os ps m h =
    list_all-from_AllPass (is_fingerprinted seed) ps (All-permutation (λ o. is_fingerprinted seed o ≡ true) os ps m
    (AllPass-from_list_all (is_fingerprinted seed) os h))

-- one more
pub fingerprinted_more : (seed : ℕ) (os : List FingerprintedValue) (o : FingerprintedValue)
    → o.fingerprint ≡ fingerprint seed unlimited (value_tree o.value)
    → is_distinct_within unlimited (value_tree o.value) ≡ true → list_all (is_fingerprinted seed) os ≡ true
    → list_all (is_fingerprinted seed) (os ++ o ∷ []) ≡ true
fingerprinted_more seed os o same own known =
    list_all-append (is_fingerprinted seed) os (o ∷ [])
    ∙ and_from (list_all (is_fingerprinted seed) os) (is_fingerprinted seed o && true) known
    (and_from (is_fingerprinted seed o) true (and_from
    (o.fingerprint == fingerprint seed unlimited (value_tree o.value))
    (is_distinct_within unlimited (value_tree o.value))
    (eq-eqb o.fingerprint (fingerprint seed unlimited (value_tree o.value)) same) own) refl)

-- one of them
fingerprinted_at : (seed : ℕ) (os : List FingerprintedValue) (i : ℕ) (d : FingerprintedValue)
    → list_all (is_fingerprinted seed) os ≡ true → i < length os → is_fingerprinted seed (get_or os i d) ≡ true
fingerprinted_at seed os i d known h =
    true_from_ne_false (is_fingerprinted seed (get_or os i d))
    (λ w. both_ways (list_all (is_fingerprinted seed) os) (list_all_at (is_fingerprinted seed) os i d h w) known)

-- ---- a tree t among them, whose fingerprint is p

module _ (seed p : ℕ) (t : Tree) (same : p ≡ fingerprint seed unlimited t)
    (own : is_distinct_within unlimited t ≡ true) where
  -- an option with another fingerprint differs
  differs : (o : FingerprintedValue) → is_fingerprinted seed o ≡ true → o.fingerprint ≢ p
      → equal (value_tree o.value) t ≡ false
  differs o known other = false_from_ne_true (equal (value_tree o.value) t) (λ w.
      let parts =
      and_parts (o.fingerprint == fingerprint seed unlimited (value_tree o.value))
      (is_distinct_within unlimited (value_tree o.value)) known in
      other (eqb-true o.fingerprint (fingerprint seed unlimited (value_tree o.value)) parts.0
      ∙ equal_fingerprint seed unlimited (value_tree o.value) t parts.1 own w ∙ sym same))

  -- so do the first n, where all have others
  none_in_front : (n : ℕ) (os : List FingerprintedValue) → list_all (is_fingerprinted seed) os ≡ true
      → ((k : ℕ) (d : FingerprintedValue) → k < n → k < length os → (get_or os k d).fingerprint ≢ p)
      → has_value (drop n os) t ≡ has_value os t
  none_in_front zero os known others = refl
  none_in_front (suc n) [] known others = refl
  none_in_front (suc n) (o ∷ os) known others =
      let parts = and_parts (is_fingerprinted seed o) (list_all (is_fingerprinted seed) os) known in
      none_in_front n os parts.1 (λ k d l h. others (suc k) d (omega (arith, l)) (omega (arith, h)))
      ∙ sym (ap (λ b. b || has_value os t) (differs o parts.0 (others zero o (omega arith) (omega arith))))

  -- the others begin with those that have its fingerprint, where none is below it
  run_from : (n : ℕ) (os : List FingerprintedValue) → list_all (is_fingerprinted seed) os ≡ true
      → IsNonDecreasingBy (λ o. o.fingerprint) os
      → ((k : ℕ) (d : FingerprintedValue) → n ≤ k → k < length os → p ≤ (get_or os k d).fingerprint)
      → IsRun p t (drop n os)
  run_from n os known up above i j d l h other =
      let within : n + j < length os = omega (arith, h, length-drop n os) in
      rw (get_or-drop n os j d) (differs (get_or os (n + j) d) (fingerprinted_at seed os (n + j) d known within) (λ q.
      let here : p ≤ (get_or os (n + i) d).fingerprint = above (n + i) d (omega arith) (omega (arith, within, l)) in
      let order : (get_or os (n + i) d).fingerprint ≤ (get_or os (n + j) d).fingerprint =
      up (n + i) (n + j) d (omega (arith, l)) within in
      rw get_or-drop at other (omega (arith, here, order, q))))

  -- so a search for the first option that isn't below it leaves the others, a run of its fingerprint first
  pub searched_values : (n : ℕ) (os : List FingerprintedValue) → list_all (is_fingerprinted seed) os ≡ true
      → IsNonDecreasingBy (λ o. o.fingerprint) os
      → IsPartitionPoint (λ o. ltb o.fingerprint p ≡ true) (λ o. ltb o.fingerprint p ≡ false) os n
      → IsRun p t (drop n os) × (has_value (drop n os) t ≡ has_value os t)
  searched_values n os known up at = (
    run_from n os known up (λ k d l h. ltb-false (get_or os k d).fingerprint p (at.1 k d l h)),
    none_in_front n os known (λ k d l h q. let below : (get_or os k d).fingerprint < p =
        ltb-true (get_or os k d).fingerprint p (at.0 k d (omega arith) l) in omega (arith, below, q)),
  )

-- a run is over at the first option with another fingerprint
pub run_over : (p : ℕ) (t : Tree) (os : List FingerprintedValue) (i : ℕ) (o : FingerprintedValue) → IsRun p t os
    → i < length os → o ≡ get_or os i o
    → o.fingerprint ≢ p → has_value (drop i os) t ≡ false
run_over p t os i o run h here other =
    list_any_none (λ v. equal (value_tree v.value) t) (drop i os)
    (All-from_get_or (λ v. equal (value_tree v.value) t ≡ false) (drop i os) o (λ k l.
    rw (get_or-drop i os k o) (run i (i + k) o (omega arith) (omega (arith, l, length-drop i os))
    (λ q. other (ap (λ v. v.fingerprint) here ∙ q)))))

-- ---- each of equal options once

-- what does not repeat the last one, which is kept
abbrev kept : FingerprintedValue → List FingerprintedValue → List FingerprintedValue
kept = dedup_from (λ o last. is_repeat last o)

-- an option is left out beside the one that it repeats, which any tree equals that it equals
left_out : (a b r : Bool) → (b ≡ true → a ≡ true) → (a || r) ≡ (a || (b || r))
left_out true b r h = refl
left_out false true r h = let e = h refl in absurd (cc)
left_out false false r h = refl

-- the same trees are among them
same_kept : (t : Tree) (os : List FingerprintedValue) (k : FingerprintedValue)
    → has_value (kept k os) t ≡ has_value (k ∷ os) t
same_kept t [] k = refl
same_kept t (o ∷ os) k =
    cond_both (is_repeat k o) (kept k os) (k ∷ kept o os) (λ ps. has_value ps t ≡ has_value (k ∷ o ∷ os) t)
    (λ e. same_kept t os k ∙ left_out (equal (value_tree k.value) t) (equal (value_tree o.value) t) (has_value os t)
    (λ h. equal_trans (value_tree k.value) (value_tree o.value) t (and_parts (o.fingerprint == k.fingerprint) _ e).1 h))
    (λ e. ap (λ b. equal (value_tree k.value) t || b) (same_kept t os o))

pub same_once : (t : Tree) (os : List FingerprintedValue)
    → has_value (dedup (λ o last. is_repeat last o) os) t ≡ has_value os t
same_once t [] = refl
same_once t (o ∷ os) = same_kept t os o

-- in front of what is no lower
in_front : (k : FingerprintedValue) (os : List FingerprintedValue) → All (λ o. k.fingerprint ≤ o.fingerprint) os
    → IsNonDecreasingBy (λ o. o.fingerprint) os
    → IsNonDecreasingBy (λ o. o.fingerprint) (k ∷ os)
in_front k os low up zero zero d l h = omega arith
in_front k os low up zero (suc j) d l h = low j d (omega (arith, h))
in_front k os low up (suc i) zero d l h = absurd (omega (arith, l))
in_front k os low up (suc i) (suc j) d l h = up i j d (omega (arith, l)) (omega (arith, h))

-- the first is no higher than the others
none_below : (k : FingerprintedValue) (os : List FingerprintedValue) → IsNonDecreasingBy (λ o. o.fingerprint) (k ∷ os)
    → All (λ o. k.fingerprint ≤ o.fingerprint) os
none_below k os up j d h = up zero (suc j) d (omega arith) (omega (arith, h))

-- the others
behind : (k : FingerprintedValue) (os : List FingerprintedValue) → IsNonDecreasingBy (λ o. o.fingerprint) (k ∷ os)
    → IsNonDecreasingBy (λ o. o.fingerprint) os
behind k os up i j d l h = up (suc i) (suc j) d (omega (arith, l)) (omega (arith, h))

-- they stay in order
kept_in_order : (os : List FingerprintedValue) (k : FingerprintedValue)
    → IsNonDecreasingBy (λ o. o.fingerprint) (k ∷ os)
    → IsNonDecreasingBy (λ o. o.fingerprint) (kept k os)
kept_in_order [] k up = up
kept_in_order (o ∷ os) k up =
    cond_both (is_repeat k o) (kept k os) (k ∷ kept o os) (IsNonDecreasingBy (λ o. o.fingerprint))
    (λ e. kept_in_order os k (in_front k os
    (All-tail (λ y. k.fingerprint ≤ y.fingerprint) o os (none_below k (o ∷ os) up))
    (behind o os (behind k (o ∷ os) up))))
    (λ e. in_front k (kept o os) (All-dedup (λ o last. is_repeat last o) (λ y. k.fingerprint ≤ y.fingerprint) (o ∷ os)
    (none_below k (o ∷ os) up)) (kept_in_order os o (behind k (o ∷ os) up)))

pub in_order_once : (os : List FingerprintedValue) → IsNonDecreasingBy (λ o. o.fingerprint) os
    → IsNonDecreasingBy (λ o. o.fingerprint) (dedup (λ o last. is_repeat last o) os)
in_order_once [] up = up
in_order_once (o ∷ os) up = kept_in_order os o up

-- with their fingerprints
pub fingerprinted_once : (seed : ℕ) (os : List FingerprintedValue) → list_all (is_fingerprinted seed) os ≡ true
    → list_all (is_fingerprinted seed) (dedup (λ o last. is_repeat last o) os) ≡ true
fingerprinted_once seed os h = list_all-from_AllPass (is_fingerprinted seed) (dedup (λ o last. is_repeat last o) os)
    (All-dedup (λ o last. is_repeat last o) (λ o. is_fingerprinted seed o ≡ true) os
    (AllPass-from_list_all (is_fingerprinted seed) os h))

-- ---- the options that a value lists

-- sorted, each of equal ones once
moved : (ds : Items) (os ps qs : List FingerprintedValue) → ((t : Tree) → has_value os t ≡ is_option ds t)
    → IsPermutation os ps
    → qs ≡ dedup (λ o last. is_repeat last o) ps → (t : Tree) → is_option ds t ≡ has_value qs t
moved ds os ps qs same m e t =
    sym (same t) ∙ list_any-IsPermutation (λ o. equal (value_tree o.value) t) os ps m ∙ sym (same_once t ps)
    ∙ ap (λ xs. has_value xs t) (sym e)

-- in a table, null among them
pub are_values : (ds : Items) (os ps qs : List FingerprintedValue) → ((t : Tree) → has_value os t ≡ is_option ds t)
    → IsPermutation os ps
    → qs ≡ dedup (λ o last. is_repeat last o) ps → AreOptions (has_value qs) false ds
are_values ds os ps qs same m e t = moved ds os ps qs same m e t ∙ go (has_value qs t)
  where
    go : (b : Bool) → b ≡ (b || false)
    go true = refl
    go false = refl

-- a tree of another type is none of them
pub no_value : (s : JsonTypeSet) (ds : Items) (os ps qs : List FingerprintedValue)
    → ((t : Tree) → has_value os t ≡ is_option ds t)
    → IsPermutation os ps → qs ≡ dedup (λ o last. is_repeat last o) ps → s ≡ option_types no_types ds
    → (t : Tree) → has_type_of s t ≡ false → has_value qs t ≡ false
no_value s ds os ps qs same m once e t h = sym (moved ds os ps qs same m once t) ∙ no_option s ds t e h

-- each can stand in it
pub all_taken : (ds : Items) → only (λ d. true) ds ≡ true
all_taken no_items = refl
all_taken (item d ds) = all_taken ds
