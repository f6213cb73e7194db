-- Where a tree stands shows in the beginning of the instance locations alone.
use Rattle.std.specs.Prelude.{◌≡◌, ℕ, suc, List, [], ◌∷◌, ◌++◌, map, drop, count_by, Bool, true, false, decimal}
use Rattle.std.specs.Prelude.{if◌then◌else◌}
use Rattle.std.proofs.Common.{refl, sym, ◌∙◌, ap}
use Rattle.std.proofs.lemmas.List.{append_assoc, map-append}
use Rattle.jskw_value.specs.Pointer.{Pointer, item_location}
use Rattle.jskw_value.specs.Tree.{Tree, items, is_array}
use Rattle.jskw_report.specs.Kind as kind
use Rattle.jskw_report.specs.Keyword.{Schema, false_schema, schema_object, Keywords, no_keywords, keyword, Keyword}
use Rattle.jskw_report.specs.Keyword.{assertion, contains, each_of, rest_of, Schemas, no_schemas, schema, Bounds}
use Rattle.jskw_report.specs.Holds.{holds}
use Rattle.jskw_report.specs.Fail.{Failure, error_kinds, failing_bound, contains_fails, each_item, fail, all_fail}
use Rattle.jskw_report.specs.Fail.{keyword_fail, each_fails}
use Rattle.jskw_report.specs.Laws.{below}

-- the failures f of each location p are alike below every r
abbrev AlikeBelow : (Pointer → List Failure) → Type 0
AlikeBelow f = (r p : Pointer) → f (r ++ p) ≡ map (below r) (f p)

-- the failures that are made one by one at each location are alike below r
map-map : {X : Type 0} (f : X → Pointer → Failure) (r p : Pointer) → ((x : X) → f x (r ++ p) ≡ below r (f x p))
    → (xs : List X) → map (λ x. f x (r ++ p)) xs ≡ map (below r) (map (λ x. f x p) xs)
map-map f r p e [] = refl
map-map f r p e (x ∷ xs) =
    ap (λ y. y ∷ map (λ x. f x (r ++ p)) xs) (e x) ∙ ap (λ ys. below r (f x p) ∷ ys) (map-map f r p e xs)

-- two lists that are alike below r, one after the other
joined : (r : Pointer) (xs ys us vs : List Failure) → xs ≡ map (below r) us → ys ≡ map (below r) vs
    → xs ++ ys ≡ map (below r) (us ++ vs)
joined r xs ys us vs e f = ap (λ x. x ++ ys) e ∙ ap (λ y. map (below r) us ++ y) f ∙ sym (map-append (below r) us vs)

-- an item below r stands below r
item_location-append : (r p : Pointer) (i : ℕ) → item_location (r ++ p) i ≡ r ++ item_location p i
item_location-append r p i = append_assoc r p (47 ∷ decimal i)

-- the failures of an item whose array stands below r
at_item : (f : Pointer → List Failure) → AlikeBelow f → (r p : Pointer) (i : ℕ)
    → f (item_location (r ++ p) i) ≡ map (below r) (f (item_location p i))
at_item f e r p i = ap f (item_location-append r p i) ∙ e r (item_location p i)

-- the failures of the items in turn
each_below : (f : Tree → Pointer → List Failure) → ((t : Tree) → AlikeBelow (f t)) → (i : ℕ) (ts : List Tree)
    → AlikeBelow (λ p. each_item f i ts p)
each_below f e i [] r p = refl
each_below f e i (t ∷ ts) r p = joined r _ _ _ _ (at_item (f t) (e t) r p i) (each_below f e (suc i) ts r p)

-- the failures of `contains`
contains_below : (b : Bounds) (n : ℕ) (t : Tree) (array : Bool)
    → AlikeBelow (λ p. if array then contains_fails b n t p else [])
contains_below b n t true r p =
    map-map (λ q p. record { kind = kind.Contains; instance_location = p; keyword_location = q; tree = t }) r p
    (λ q. refl) (failing_bound b n)
contains_below b n t false r p = refl

mutual
  -- the failures of a schema
  pub fail_below : (s : Schema) (t : Tree) → AlikeBelow (fail s t)
  fail_below (false_schema q) t r p = refl
  fail_below (schema_object q marks ks) t r p = all_below ks t r p

  -- the failures of keywords
  all_below : (ks : Keywords) (t : Tree) → AlikeBelow (all_fail ks t)
  all_below no_keywords t r p = refl
  all_below (keyword q k ks) t r p = joined r _ _ _ _ (keyword_below k t r p) (all_below ks t r p)

  -- the failures of a keyword
  keyword_below : (k : Keyword) (t : Tree) → AlikeBelow (keyword_fail k t)
  keyword_below (assertion q a) t r p =
      map-map (λ k p. record { kind = k; instance_location = p; keyword_location = q; tree = t }) r p (λ k. refl)
      (error_kinds a t)
  keyword_below (contains s b) t r p = contains_below b (count_by (holds s) (items t)) t (is_array t) r p
  keyword_below (each_of prefix ss) t r p = pairs_below ss 0 (items t) r p
  keyword_below (rest_of additional n s bare) t r p = each_below (fail s) (λ t. fail_below s t) n (drop n (items t)) r p

  -- the failures of schemas over the items of their indices
  pairs_below : (ss : Schemas) (i : ℕ) (ts : List Tree) → AlikeBelow (each_fails ss i ts)
  pairs_below no_schemas i ts r p = refl
  pairs_below (schema s ss) i [] r p = refl
  pairs_below (schema s ss) i (t ∷ ts) r p =
      joined r _ _ _ _ (at_item (fail s t) (fail_below s t) r p i) (pairs_below ss (suc i) ts r p)
