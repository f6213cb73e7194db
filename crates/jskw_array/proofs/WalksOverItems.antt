-- What a walk over items has left at an item, and at the end.
use Rattle.std.proofs.Common.{◌≡◌, ℕ, zero, suc, ◌+◌, ◌<◌, ◌≤◌, min, List, [], ◌∷◌, ◌++◌, length, get_or, drop, sum_by}
use Rattle.std.proofs.Common.{Bool, true, if◌then◌else◌, refl, ap, ap₂, ◌∙◌, arith}
use Rattle.std.proofs.Math.Seq.{drop-nil}
use Rattle.std.proofs.lemmas.List.Sums.{sum_by-cons}
use Rattle.jskw_array.specs.Words.{Each, Pointer, Schema, Schemas, Tree, each_fails, each_height, each_holds}
use Rattle.jskw_array.specs.Words.{each_keyword, each_needed, each_pairs, evaluate_each, evaluate_pairs, fail, height}
use Rattle.jskw_array.specs.Words.{holds, tree, item_location, keyword_height, needed, no_schemas, pairs, schema}
use Rattle.jskw_array.specs.Words.{schemas_of, sum_to_failure}
use Rattle.jskw_report.proofs.GatheredNodes.{drop_here}
use Rattle.jskw_report.specs.Evaluation.{schema_count}

-- ---- one schema for all items

module _ (ts : List Tree) (i : ℕ) (t : Tree) (within : i < length ts) (is : t ≡ get_or ts i t) where
  pub sum_at : (f : Tree → ℕ) → sum_by f (drop i ts) ≡ f t + sum_by f (drop (i + 1) ts)
  sum_at f = ap (sum_by f) (drop_here ts i t within is) ∙ sum_by-cons f t (drop (i + 1) ts)

  pub until_at : (p : Tree → Bool) (f : Tree → ℕ)
      → sum_to_failure p f (drop i ts) ≡ f t + (if p t then sum_to_failure p f (drop (i + 1) ts) else 0)
  until_at p f = ap (sum_to_failure p f) (drop_here ts i t within is)

  pub nodes_at : (s : Schema) (p : Pointer) → evaluate_each (tree s) i (drop i ts) p
      ≡ tree s t (item_location p i) ∷ evaluate_each (tree s) (i + 1) (drop (i + 1) ts) p
  nodes_at s p = ap (λ us. evaluate_each (tree s) i us p) (drop_here ts i t within is)
      ∙ ap (λ j. tree s t (item_location p i) ∷ evaluate_each (tree s) j (drop (i + 1) ts) p) (omega arith)

-- ---- a schema for each item

module _ (ss : List Schema) (ts : List Tree) (i : ℕ) (s : Schema) (t : Tree)
    (schema_within : i < length ss) (within : i < length ts) (schema_is : s ≡ get_or ss i s)
    (is : t ≡ get_or ts i t) where
  at_both : {B : Type 0} (f : List Schema → List Tree → B)
      → f (drop i ss) (drop i ts) ≡ f (s ∷ drop (i + 1) ss) (t ∷ drop (i + 1) ts)
  at_both f = ap₂ f (drop_here ss i s schema_within schema_is) (drop_here ts i t within is)

  pub each_needed_at : each_needed (schemas_of (drop i ss)) (drop i ts)
      ≡ needed s t + (if holds s t then each_needed (schemas_of (drop (i + 1) ss)) (drop (i + 1) ts) else 0)
  each_needed_at = at_both (λ rs us. each_needed (schemas_of rs) us)

  pub each_pairs_at : each_pairs (schemas_of (drop i ss)) (drop i ts)
      ≡ pairs s t + each_pairs (schemas_of (drop (i + 1) ss)) (drop (i + 1) ts)
  each_pairs_at = at_both (λ rs us. each_pairs (schemas_of rs) us)

  pub each_nodes_at : (p : Pointer) → evaluate_pairs (schemas_of (drop i ss)) i (drop i ts) p
      ≡ tree s t (item_location p i) ∷ evaluate_pairs (schemas_of (drop (i + 1) ss)) (i + 1) (drop (i + 1) ts) p
  each_nodes_at p = at_both (λ rs us. evaluate_pairs (schemas_of rs) i us p) ∙ ap (λ j. tree s t (item_location p i)
      ∷ evaluate_pairs (schemas_of (drop (i + 1) ss)) j (drop (i + 1) ts) p) (omega arith)

  pub each_fails_at : (p : Pointer) → each_fails (schemas_of (drop i ss)) i (drop i ts) p
      ≡ fail s t (item_location p i) ++ each_fails (schemas_of (drop (i + 1) ss)) (i + 1) (drop (i + 1) ts) p
  each_fails_at p = at_both (λ rs us. each_fails (schemas_of rs) i us p)
      ∙ ap (λ j. fail s t (item_location p i) ++ each_fails (schemas_of (drop (i + 1) ss)) j (drop (i + 1) ts) p)
      (omega arith)

-- where either list ends
at_end : {A B C : Type 0} (f : List A → List B → C) (z : C) → ((us : List B) → f [] us ≡ z)
    → ((ms : List A) → f ms [] ≡ z)
    → (ns : List A) (ts : List B) (i : ℕ) → min (length ts) (length ns) ≤ i → f (drop i ns) (drop i ts) ≡ z
at_end f z a b [] ts i h = ap (λ ms. f ms (drop i ts)) (drop-nil i) ∙ a (drop i ts)
at_end f z a b (n ∷ ns) [] i h = ap (f (drop i (n ∷ ns))) (drop-nil i) ∙ b (drop i (n ∷ ns))
at_end f z a b (n ∷ ns) (t ∷ ts) zero h = absurd (omega arith)
at_end f z a b (n ∷ ns) (t ∷ ts) (suc i) h = at_end f z a b ns ts i (omega arith)

no_item_holds : (ss : Schemas) → each_holds ss [] ≡ true
no_item_holds no_schemas = refl
no_item_holds (schema s ss) = refl

no_item_fails : (ss : Schemas) (i : ℕ) (p : Pointer) → each_fails ss i [] p ≡ []
no_item_fails no_schemas i p = refl
no_item_fails (schema s ss) i p = refl

no_item_unit : (ss : Schemas) (i : ℕ) (p : Pointer) → evaluate_pairs ss i [] p ≡ []
no_item_unit no_schemas i p = refl
no_item_unit (schema s ss) i p = refl

module _ (ss : List Schema) (ts : List Tree) (i : ℕ) (end : min (length ts) (length ss) ≤ i) where
  pub each_holds_end : each_holds (schemas_of (drop i ss)) (drop i ts) ≡ true
  each_holds_end =
      at_end (λ rs us. each_holds (schemas_of rs) us) true (λ us. refl)
      (λ rs. no_item_holds (schemas_of rs)) ss ts i end

  pub each_fails_end : (p : Pointer) → each_fails (schemas_of (drop i ss)) i (drop i ts) p ≡ []
  each_fails_end p =
      at_end (λ rs us. each_fails (schemas_of rs) i us p) [] (λ us. refl)
      (λ rs. no_item_fails (schemas_of rs) i p) ss ts i end

  pub each_nodes_end : (p : Pointer) → evaluate_pairs (schemas_of (drop i ss)) i (drop i ts) p ≡ []
  each_nodes_end p =
      at_end (λ rs us. evaluate_pairs (schemas_of rs) i us p) [] (λ us. refl)
      (λ rs. no_item_unit (schemas_of rs) i p) ss ts i end

-- none of the schemas is higher than all
pub height_at : (ss : List Schema) (i : ℕ) (s : Schema) → i < length ss → s ≡ get_or ss i s
    → height s ≤ each_height (schemas_of ss)
height_at [] i s within is = absurd (omega arith)
height_at (r ∷ ss) zero s within is = let e = ap height is in omega arith
height_at (r ∷ ss) (suc i) s within is = let below = height_at ss i s (omega arith) is in omega arith

-- nor higher than the keyword
pub each_lower : {F Node Number Key : Type 0} (v : Each F Node Number Key) (i : ℕ) (s : Schema)
    → i < length v.nodes.items → s ≡ get_or v.nodes.items i s → height s ≤ keyword_height (each_keyword v)
each_lower v i s within is = omega (arith, height_at v.nodes.items i s within is)

-- there are as many schemas as in the list
pub count_of : (ss : List Schema) → schema_count (schemas_of ss) ≡ length ss
count_of [] = refl
count_of (s ∷ ss) = ap suc (count_of ss)
