-- Unique items by their indices.
use Rattle.std.specs.Prelude.{◌≡◌, ℕ, zero, suc, ◌<◌, not, ◌&&◌, List, [], ◌∷◌, Bool, false, Some, slice_get, IsTrue}
use Rattle.std.specs.List.{list_any}
use Rattle.std.proofs.Common.{refl, ◌∙◌, ap, subst, arith}
use Rattle.std.proofs.lemmas.Bool.{and_parts, both_ways, false_from_ne_true, not-true}
use Rattle.std.proofs.lemmas.List.Folds.{list_any_at}
use Rattle.std.proofs.lemmas.List.Recursion.{or_from_places}
use Rattle.std.proofs.lemmas.Option.{get_or_from_slice_get, same_Some, slice_get-get_or, slice_get_within}
use Rattle.jskw_value.specs.Equality.{equal, unique}
use Rattle.jskw_value.specs.Laws.{UniqueMeansNoTwoEqual}
use Rattle.jskw_value.specs.Tree.{Tree, null}

-- where no item passes, an item at an index fails
pub none_passes : (p : Tree → Bool) (ts : List Tree) → list_any p ts ≡ false → (j : ℕ) (u : Tree)
    → slice_get ts j ≡ Some u
    → p u ≡ false
none_passes p ts e j u at = false_from_ne_true (p u) (λ h. both_ways (list_any p ts) e
    (list_any_at p ts j u (slice_get_within ts j u at) (ap p (get_or_from_slice_get ts j u u at) ∙ h)))

-- where the item at each index fails, none passes
none_found : (p : Tree → Bool) (ts : List Tree) → ((j : ℕ) (u : Tree) → slice_get ts j ≡ Some u → p u ≡ false)
    → list_any p ts ≡ false
none_found p ts e =
    or_from_places (list_any p) p refl (λ u us. refl) ts null (λ j h. e j _ (slice_get-get_or ts j null h))

-- no two items of unique ones are equal
differ : (ts : List Tree) → IsTrue (unique ts) → (i j : ℕ) (t u : Tree) → i < j → slice_get ts i ≡ Some t
    → slice_get ts j ≡ Some u → equal t u ≡ false
differ [] h i j t u l e f = absurd (cc)
differ (x ∷ xs) h i zero t u l e f = absurd (omega arith)
differ (x ∷ xs) h zero (suc j) t u l e f = subst (λ y. equal y u ≡ false) (same_Some x t e)
    (none_passes (equal x) xs (not-true _ (and_parts (not (list_any (equal x) xs)) (unique xs) h).0) j u f)
differ (x ∷ xs) h (suc i) (suc j) t u l e f =
    differ xs (and_parts (not (list_any (equal x) xs)) (unique xs) h).1 i j t u (omega arith) e f

-- items of which no two are equal are unique
all : (ts : List Tree)
    → ((i j : ℕ) (t u : Tree) → i < j → slice_get ts i ≡ Some t → slice_get ts j ≡ Some u → equal t u ≡ false)
    → IsTrue (unique ts)
all [] h = refl
all (x ∷ xs) h =
    ap (λ b. not b && unique xs) (none_found (equal x) xs (λ j u f. h zero (suc j) x u (omega arith) refl f))
    ∙ all xs (λ i j t u l e f. h (suc i) (suc j) t u (omega arith) e f)

-- items are unique exactly where no two of them are equal
pub unique_means : UniqueMeansNoTwoEqual
unique_means ts = (differ ts, all ts)
