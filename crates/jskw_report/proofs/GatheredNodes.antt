-- What a walk over items that gathers their nodes has left: at an item, and at the end.
use Rattle.std.proofs.Common.{◌≡◌, ℕ, suc, ◌+◌, ◌<◌, ◌≤◌, List, [], ◌∷◌, ◌++◌, length, get_or, drop, Bool, true, false}
use Rattle.std.proofs.Common.{if◌then◌else◌, refl, sym, ap, ◌∙◌, arith, append_assoc, append-nil}
use Rattle.std.proofs.lemmas.List.{drop_more, drop_all}
use Rattle.jskw_value.specs.Pointer.{Pointer, item_location}
use Rattle.jskw_value.specs.Tree.{Tree}
use Rattle.jskw_report.specs.Evaluation.{Evaluation, evaluate_matching, matching_indices}

-- ---- what is left, and what was gathered before

-- something was appended
pub appended : {A : Type 0} (more left rest done now all : List A)
    → left ≡ more ++ rest → now ≡ done ++ more → done ++ left ≡ all → now ++ rest ≡ all
appended more left rest done now all split is whole =
    ap (λ xs. xs ++ rest) is ∙ append_assoc done more rest ∙ ap (λ xs. done ++ xs) (sym split) ∙ whole

-- the first of a list, if there is one
first_if : {A : Type 0} (b : Bool) (x : A) (xs : List A)
    → (if b then x ∷ xs else xs) ≡ (if b then x ∷ [] else []) ++ xs
first_if true x xs = refl
first_if false x xs = refl

-- nothing is left
pub gathered_all : {A : Type 0} (left done all : List A) → left ≡ [] → done ++ left ≡ all → done ≡ all
gathered_all left done all none whole = sym (append-nil done) ∙ ap (λ xs. done ++ xs) (sym none) ∙ whole

-- ---- at an item

-- from a place on a list has what stands there and what is behind it
pub drop_here : {X : Type 0} (xs : List X) (i : ℕ) (x : X)
    → i < length xs → x ≡ get_or xs i x → drop i xs ≡ x ∷ drop (i + 1) xs
drop_here xs i x within is = drop_more xs i x within ∙ ap (λ y. y ∷ drop (i + 1) xs) (sym is)

-- the item of index i is t
module _ (ts : List Tree) (i : ℕ) (t : Tree) (within : i < length ts) (is : t ≡ get_or ts i t) where
  -- what a walk g gives from here on, by what it gives from the next item on
  at : {A : Type 0} (g : ℕ → List Tree → List A) (before : List A → List A)
      → ((us : List Tree) → g i (t ∷ us) ≡ before (g (suc i) us))
      → g i (drop i ts) ≡ before (g (i + 1) (drop (i + 1) ts))
  at g before step =
      ap (g i) (drop_here ts i t within is) ∙ step (drop (i + 1) ts)
      ∙ ap (λ j. before (g j (drop (i + 1) ts))) (omega arith)

  -- where it gives x of the item if that matches, and so much was gathered
  at_matching : {A : Type 0} (g : ℕ → List Tree → List A) (x : A) (matches : Bool)
      → ((us : List Tree) → g i (t ∷ us) ≡ (if matches then x ∷ g (suc i) us else g (suc i) us))
      → (done now all : List A) → now ≡ done ++ (if matches then x ∷ [] else [])
      → done ++ g i (drop i ts) ≡ all → now ++ g (i + 1) (drop (i + 1) ts) ≡ all
  at_matching g x matches step done now all is whole =
      let rest = g (i + 1) (drop (i + 1) ts) in
      appended (if matches then x ∷ [] else []) _ rest done now all
      (at g (λ xs. if matches then x ∷ xs else xs) step ∙ first_if matches x rest) is whole

  -- the nodes of the items that match
  pub node_met : (m : Tree → Bool) (f : Tree → Pointer → Evaluation) (p : Pointer) (done now all : List Evaluation)
      → now ≡ done ++ (if m t then f t (item_location p i) ∷ [] else [])
      → done ++ evaluate_matching m f i (drop i ts) p ≡ all
      → now ++ evaluate_matching m f (i + 1) (drop (i + 1) ts) p ≡ all
  node_met m f p =
      at_matching (λ j us. evaluate_matching m f j us p) (f t (item_location p i)) (m t) (λ us. refl)

  -- the indices of the items that match
  pub index_met : (m : Tree → Bool) (done now all : List ℕ) → now ≡ done ++ (if m t then i ∷ [] else [])
      → done ++ matching_indices m i (drop i ts) ≡ all → now ++ matching_indices m (i + 1) (drop (i + 1) ts) ≡ all
  index_met m = at_matching (matching_indices m) i (m t) (λ us. refl)

-- ---- at the end

module _ (ts : List Tree) (i : ℕ) (end : length ts ≤ i) where
  pub node_end : (m : Tree → Bool) (f : Tree → Pointer → Evaluation) (p : Pointer)
      → evaluate_matching m f i (drop i ts) p ≡ []
  node_end m f p = ap (λ us. evaluate_matching m f i us p) (drop_all i ts end)

  pub index_end : (m : Tree → Bool) → matching_indices m i (drop i ts) ≡ []
  index_end m = ap (matching_indices m i) (drop_all i ts end)
