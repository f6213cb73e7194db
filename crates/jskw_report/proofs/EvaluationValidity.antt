-- The evaluation tree is valid where the schema holds.
use Rattle.std.specs.Prelude.{◌≡◌, ℕ, suc, List, [], ◌∷◌, drop, Bool, true, false, if◌then◌else◌}
use Rattle.std.specs.List.{list_all}
use Rattle.std.proofs.Common.{refl, sym, ap}
use Rattle.std.proofs.Math.Seq.{drop-nil}
use Rattle.jskw_value.specs.Pointer.{Pointer, item_location}
use Rattle.jskw_value.specs.Tree.{Tree, array, items, is_array}
use Rattle.jskw_report.specs.Keyword.{Schema, false_schema, schema_object, Keywords, no_keywords, keyword, Keyword}
use Rattle.jskw_report.specs.Keyword.{assertion, contains, each_of, rest_of, Schemas, no_schemas, schema}
use Rattle.jskw_report.specs.Holds.{holds, all_hold, keyword_holds, each_holds}
use Rattle.jskw_report.specs.Fail.{Failure, keyword_fail, is_empty}
use Rattle.jskw_report.specs.Evaluation.{Evaluation, Result, is_valid, evaluate_each, tree, units, unit, evaluate_pairs}
use Rattle.jskw_report.specs.Evaluation.{of_errors, valid_unit}
use Rattle.jskw_value.proofs.Booleans.{both}
use Rattle.jskw_report.proofs.HoldsIsNoFailure.{keyword_empty}

-- the result of `contains`, by its errors or by the items that match
contains_valid : (holds' : Bool) (fs : List Failure) (r : Result) → holds' ≡ is_empty fs → r.valid ≡ true
    → (if holds' then r else of_errors fs).valid ≡ holds'
unfolding of_errors
contains_valid true fs r e v = v
contains_valid false fs r e v = sym e

-- the nodes of the items in turn
each_valid : (h : Tree → Bool) (f : Tree → Pointer → Evaluation) → ((t : Tree) (p : Pointer) → is_valid (f t p) ≡ h t)
    → (i : ℕ) (ts : List Tree) (p : Pointer) → list_all is_valid (evaluate_each f i ts p) ≡ list_all h ts
each_valid h f e i [] p = refl
each_valid h f e i (t ∷ ts) p = both (e t (item_location p i)) (each_valid h f e (suc i) ts p)

-- the result of `items`, of an array or of a tree without items
items_valid : (h : Tree → Bool) (n : ℕ) (t : Tree) (r : Result) → r.valid ≡ list_all h (drop n (items t))
    → (if is_array t then r else valid_unit).valid ≡ list_all h (drop n (items t))
items_valid h n (array ts) r e = e
items_valid h n _ r e = sym (ap (list_all h) (drop-nil n))

mutual
  unfolding of_errors

  -- the node of a schema
  pub tree_valid : (s : Schema) (t : Tree) (p : Pointer) → is_valid (tree s t p) ≡ holds s t
  tree_valid (false_schema q) t p = refl
  tree_valid (schema_object q marks ks) t p = units_valid ks t p

  -- the nodes of keywords
  pub units_valid : (ks : Keywords) (t : Tree) (p : Pointer) → list_all is_valid (units ks t p) ≡ all_hold ks t
  units_valid no_keywords t p = refl
  units_valid (keyword q k ks) t p = both (unit_valid k t p) (units_valid ks t p)

  -- the result of a keyword
  pub unit_valid : (k : Keyword) (t : Tree) (p : Pointer) → (unit k t p).valid ≡ keyword_holds k t
  unit_valid (assertion q a) t p = sym (keyword_empty (assertion q a) t p)
  unit_valid (contains s b) t p =
      contains_valid (keyword_holds (contains s b) t) (keyword_fail (contains s b) t p) _
      (keyword_empty (contains s b) t p) refl
  unit_valid (each_of prefix ss) t p = pairs_valid ss 0 (items t) p
  unit_valid (rest_of true n s bare) t p = sym (keyword_empty (rest_of true n s bare) t p)
  unit_valid (rest_of false n s bare) t p =
      items_valid (holds s) n t _ (each_valid (holds s) (tree s) (λ t p. tree_valid s t p) n (drop n (items t)) p)

  -- the nodes of schemas over the items of their indices
  pub pairs_valid : (ss : Schemas) (i : ℕ) (ts : List Tree) (p : Pointer)
      → list_all is_valid (evaluate_pairs ss i ts p) ≡ each_holds ss ts
  pairs_valid no_schemas i ts p = refl
  pairs_valid (schema s ss) i [] p = refl
  pairs_valid (schema s ss) i (t ∷ ts) p = both (tree_valid s t (item_location p i)) (pairs_valid ss (suc i) ts p)
