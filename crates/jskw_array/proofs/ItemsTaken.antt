-- What a walk over items has left behind the first ones, if these are valid.
use Rattle.std.proofs.Common.{◌≡◌, ℕ, zero, suc, ◌+◌, ◌-◌, ◌≤◌, List, [], ◌∷◌, ◌++◌, length, take, drop}
use Rattle.std.proofs.Common.{sum_by, Bool, true, false, ◌&&◌, if◌then◌else◌, refl, ap, ap₂, ◌∙◌, arith}
use Rattle.std.proofs.lemmas.Bool.{and_parts}
use Rattle.std.proofs.lemmas.List.{drop-drop}
use Rattle.std.proofs.lemmas.List.Sums.{sum_by-cons}
use Rattle.jskw_report.proofs.Pairs.{needed-le}
use Rattle.jskw_array.specs.Words.{Pointer, Schema, Tree, each_item}
use Rattle.jskw_array.specs.Words.{fail, holds, item_location, list_all, needed, pairs, sum_to_failure}
use Rattle.jskw_number.specs.QuickSet.{leading}
use Rattle.jskw_array.proofs.AcceptedValues.{no_errors, one_needed}

-- the items from an index on, as those behind some of the items from an earlier one on
pub drop_behind : {A : Type 0} (start i : ℕ) (xs : List A) → start ≤ i → drop (i - start) (drop start xs) ≡ drop i xs
drop_behind start i xs from =
    drop-drop (i - start) start xs ∙ ap (λ n. drop n xs) {x = start + (i - start)} {y = i} (omega (arith, from))

-- ---- one schema for all items

-- the items before the first that fails a check are valid, if all that pass it are
pub leading_valid : (s : Schema) (check : Tree → Bool) → ((t : Tree) → check t ≡ true → holds s t ≡ true)
    → (ts : List Tree) → list_all (holds s) (take (leading check ts) ts) ≡ true
leading_valid s check valid [] = refl
leading_valid s check valid (t ∷ ts) = go (check t) (valid t) (leading_valid s check valid ts)
  where
    go : (b : Bool) → (b ≡ true → holds s t ≡ true) → list_all (holds s) (take (leading check ts) ts) ≡ true
        → list_all (holds s) (take (if b then suc (leading check ts) else 0) (t ∷ ts)) ≡ true
    go true here rest = ap₂ (λ a b. a && b) (here refl) rest
    go false here rest = refl

module _ (s : Schema) where
  pub taken_holds : (n : ℕ) (ts : List Tree) → n ≤ length ts → list_all (holds s) (take n ts) ≡ true
      → list_all (holds s) ts ≡ list_all (holds s) (drop n ts)
  taken_holds zero ts within all = refl
  taken_holds (suc n) [] within all = absurd (omega arith)
  taken_holds (suc n) (t ∷ ts) within all =
      let here = and_parts (holds s t) (list_all (holds s) (take n ts)) all in
      ap (λ b. b && list_all (holds s) ts) here.0 ∙ taken_holds n ts (omega arith) here.1

  pub taken_fails : (n : ℕ) (ts : List Tree) (i : ℕ) (p : Pointer) → n ≤ length ts
      → list_all (holds s) (take n ts) ≡ true
      → each_item (fail s) i ts p ≡ each_item (fail s) (i + n) (drop n ts) p
  taken_fails zero ts i p within all = ap (λ j. each_item (fail s) j ts p) {x = i} {y = i + 0} (omega arith)
  taken_fails (suc n) [] i p within all = absurd (omega arith)
  taken_fails (suc n) (t ∷ ts) i p within all =
      let here = and_parts (holds s t) (list_all (holds s) (take n ts)) all in
      ap (λ fs. fs ++ each_item (fail s) (suc i) ts p) (no_errors s t (item_location p i) here.0)
      ∙ taken_fails n ts (suc i) p (omega arith) here.1
      ∙ ap (λ j. each_item (fail s) j (drop n ts) p) {x = suc i + n} {y = i + suc n} (omega arith)

  pub taken_needed : (n : ℕ) (ts : List Tree) → n ≤ length ts → list_all (holds s) (take n ts) ≡ true
      → sum_by (needed s) (take n ts) + sum_to_failure (holds s) (needed s) (drop n ts)
      ≤ sum_to_failure (holds s) (needed s) ts
  taken_needed zero ts within all = omega arith
  taken_needed (suc n) [] within all = absurd (omega arith)
  taken_needed (suc n) (t ∷ ts) within all =
      let here = and_parts (holds s t) (list_all (holds s) (take n ts)) all in
      let rest = taken_needed n ts (omega arith) here.1 in
      let taken = sum_by-cons (needed s) t (take n ts) in
      let first = ap (λ b. needed s t + (if b then sum_to_failure (holds s) (needed s) ts else 0)) here.0 in
      omega (arith, rest, taken, first)

  pub taken_pairs : (n : ℕ) (ts : List Tree) → n ≤ length ts
      → sum_by (needed s) (take n ts) + sum_by (pairs s) (drop n ts) ≤ sum_by (pairs s) ts
  taken_pairs zero ts within = omega arith
  taken_pairs (suc n) [] within = absurd (omega arith)
  taken_pairs (suc n) (t ∷ ts) within =
      let rest = taken_pairs n ts (omega arith) in
      let taken = sum_by-cons (needed s) t (take n ts) in
      let some = needed-le s t in
      let first = sum_by-cons (pairs s) t ts in
      omega (arith, rest, taken, some, first)

  -- each of them is an application at least
  pub taken_least : (n : ℕ) (ts : List Tree) → n ≤ length ts → n ≤ sum_by (needed s) (take n ts)
  taken_least zero ts within = omega arith
  taken_least (suc n) [] within = absurd (omega arith)
  taken_least (suc n) (t ∷ ts) within =
      let rest = taken_least n ts (omega arith) in
      let taken = sum_by-cons (needed s) t (take n ts) in
      let one = one_needed s t in
      omega (arith, rest, taken, one)
