-- `holds` says what `fail` says.
use Rattle.std.specs.Prelude.{◌≡◌, ℕ, suc, ◌&&◌, ◌||◌, not, nat_le, nat_lt, List, [], ◌∷◌, ◌++◌, map, filter, drop}
use Rattle.std.specs.Prelude.{count_by, Bool, true, false, Option, Some, None, is_some, ◌⊎◌, ◌<◌, ◌≤◌, if◌then◌else◌}
use Rattle.std.specs.List.{list_all}
use Rattle.std.proofs.Common.{refl, sym, ◌∙◌, ap, inl, inr}
use Rattle.std.proofs.lemmas.Bool.{cases_lt, lt-leb, lt-ltb, le-leb, le-ltb, not_from_true, not_from_false}
use Rattle.jskw_value.specs.Pointer.{Pointer, item_location}
use Rattle.jskw_value.specs.Tree.{Tree, items, is_array, is_object, has_name}
use Rattle.jskw_report.specs.Kind.{ErrorKind}
use Rattle.jskw_report.specs.Kind as kind
use Rattle.jskw_report.specs.Keyword.{Schema, false_schema, schema_object, Keywords, no_keywords, keyword, Keyword}
use Rattle.jskw_report.specs.Keyword.{assertion, contains, each_of, rest_of, Schemas, no_schemas, schema, Assertion}
use Rattle.jskw_report.specs.Keyword.{required, Bounds}
use Rattle.jskw_report.specs.Holds.{assertion_holds, required_holds, within, count_holds, holds, all_hold}
use Rattle.jskw_report.specs.Holds.{keyword_holds, each_holds}
use Rattle.jskw_report.specs.Fail.{Failure, kind_for, unless, missing, error_kinds, passes, failing_bound}
use Rattle.jskw_report.specs.Fail.{contains_fails, each_item, fail, all_fail, keyword_fail, each_fails, is_empty}

-- ---- empty lists

-- an empty list has no element
pub no_element : {A : Type 0} (xs : List A) → is_empty xs ≡ true → xs ≡ []
no_element [] e = refl
no_element (x ∷ xs) e = cc

-- two lists, one after the other, are empty where both are
is_empty-append : {A : Type 0} (xs ys : List A) → is_empty (xs ++ ys) ≡ (is_empty xs && is_empty ys)
is_empty-append [] ys = refl
is_empty-append (x ∷ xs) ys = refl

-- a list that is made item by item is empty where the other is
is_empty-map : {A B : Type 0} (f : A → B) (xs : List A) → is_empty (map f xs) ≡ is_empty xs
is_empty-map f [] = refl
is_empty-map f (x ∷ xs) = refl

-- two tests of lists that are empty
joined : {A : Type 0} {a b : Bool} (xs ys : List A) → a ≡ is_empty xs → b ≡ is_empty ys → (a && b) ≡ is_empty (xs ++ ys)
joined {b} xs ys e f = ap (λ a. a && b) e ∙ ap (λ b. is_empty xs && b) f ∙ sym (is_empty-append xs ys)

-- ---- assertions

-- there is no error where the test passes
unless_empty : (b : Bool) (k : Option ErrorKind) → is_some k ≡ true → b ≡ is_empty (unless b k)
unless_empty true k e = refl
unless_empty false (Some k) e = refl
unless_empty false None e = cc

-- every name is there exactly where none is missing
all_named : (names : List (List ℕ)) (t : Tree)
    → list_all (has_name t) names ≡ is_empty (filter (λ name. not (has_name t name)) names)
all_named [] t = refl
all_named (n ∷ names) t = go (has_name t n) (all_named names t)
  where
    go : (b : Bool) → list_all (has_name t) names ≡ is_empty (filter (λ name. not (has_name t name)) names)
        → (b && list_all (has_name t) names) ≡ is_empty (if not b then n ∷ filter (λ name. not (has_name t name)) names
        else filter (λ name. not (has_name t name)) names)
    go true e = e
    go false e = refl

-- `required` holds where it misses no name
missing_empty : (names : List (List ℕ)) (t : Tree) → required_holds names t ≡ is_empty (missing names t)
missing_empty names t = go (is_object t)
  where
    go : (object : Bool) → (not object || list_all (has_name t) names)
        ≡ is_empty (if object then map kind.Required (filter (λ name. not (has_name t name)) names) else [])
    go true = all_named names t ∙ sym (is_empty-map kind.Required (filter (λ name. not (has_name t name)) names))
    go false = refl

-- an assertion holds where it has no errors
pub error_kinds_empty : (a : Assertion) (t : Tree) → assertion_holds a t ≡ is_empty (error_kinds a t)
error_kinds_empty (required names) t = missing_empty names t
error_kinds_empty a t = unless_empty (assertion_holds a t) (kind_for a) refl

-- ---- `contains`

-- no more is not fewer
nat_le-not_lt : (n u : ℕ) → nat_le n u ≡ not (nat_lt u n)
nat_le-not_lt n u = go (cases_lt u n)
  where
    go : (u < n) ⊎ (n ≤ u) → nat_le n u ≡ not (nat_lt u n)
    go (inl h) = lt-leb n u h ∙ sym (not_from_true (nat_lt u n) (lt-ltb u n h))
    go (inr h) = le-leb n u h ∙ sym (not_from_false (nat_lt u n) (le-ltb u n h))

-- a number is within the upper bound where it is not past it
within_passes : (n : ℕ) (upper : Option ℕ) → within n upper ≡ not (passes n upper)
within_passes n None = refl
within_passes n (Some u) = nat_le-not_lt n u

-- `contains` holds of a number of items where it fails at no bound
count_empty : (b : Bounds) (n : ℕ) → count_holds b n ≡ is_empty (failing_bound b n)
count_empty b n = ap (λ w. nat_le b.lower n && w) (within_passes n b.upper) ∙ go (nat_le b.lower n) (passes n b.upper)
  where
    go : (low over : Bool)
        → (low && not over) ≡ is_empty (if over then b.many ∷ [] else (if low then [] else b.few ∷ []))
    go true true = refl
    go true false = refl
    go false true = refl
    go false false = refl

-- `contains` holds where it has no errors
contains_empty : (b : Bounds) (n : ℕ) (t : Tree) (p : Pointer)
    → (not (is_array t) || count_holds b n) ≡ is_empty (if is_array t then contains_fails b n t p else [])
contains_empty b n t p = go (is_array t)
  where
    go : (array : Bool) → (not array || count_holds b n) ≡ is_empty (if array then contains_fails b n t p else [])
    go true = count_empty b n ∙ sym (is_empty-map _ (failing_bound b n))
    go false = refl

-- ---- items

-- a test of the items in turn, by their errors
each_item_empty : (h : Tree → Bool) (f : Tree → Pointer → List Failure)
    → ((t : Tree) (p : Pointer) → h t ≡ is_empty (f t p))
    → (i : ℕ) (ts : List Tree) (p : Pointer) → list_all h ts ≡ is_empty (each_item f i ts p)
each_item_empty h f e i [] p = refl
each_item_empty h f e i (t ∷ ts) p =
    joined (f t (item_location p i)) (each_item f (suc i) ts p) (e t (item_location p i))
    (each_item_empty h f e (suc i) ts p)

-- ---- schemas

mutual
  -- a schema holds where it has no errors
  pub holds_empty : (s : Schema) (t : Tree) (p : Pointer) → holds s t ≡ is_empty (fail s t p)
  holds_empty (false_schema q) t p = refl
  holds_empty (schema_object q marks ks) t p = all_empty ks t p

  -- keywords hold where they have no errors
  pub all_empty : (ks : Keywords) (t : Tree) (p : Pointer) → all_hold ks t ≡ is_empty (all_fail ks t p)
  all_empty no_keywords t p = refl
  all_empty (keyword q k ks) t p =
      joined (keyword_fail k t p) (all_fail ks t p) (keyword_empty k t p) (all_empty ks t p)

  -- a keyword holds where it has no errors
  pub keyword_empty : (k : Keyword) (t : Tree) (p : Pointer) → keyword_holds k t ≡ is_empty (keyword_fail k t p)
  keyword_empty (assertion q a) t p = error_kinds_empty a t ∙ sym (is_empty-map _ (error_kinds a t))
  keyword_empty (contains s b) t p = contains_empty b (count_by (holds s) (items t)) t p
  keyword_empty (each_of prefix ss) t p = each_empty ss 0 (items t) p
  keyword_empty (rest_of additional n s bare) t p =
      each_item_empty (holds s) (fail s) (λ t p. holds_empty s t p) n (drop n (items t)) p

  -- schemas hold of the items of their indices where they have no errors
  pub each_empty : (ss : Schemas) (i : ℕ) (ts : List Tree) (p : Pointer)
      → each_holds ss ts ≡ is_empty (each_fails ss i ts p)
  each_empty no_schemas i ts p = refl
  each_empty (schema s ss) i [] p = refl
  each_empty (schema s ss) i (t ∷ ts) p =
      joined (fail s t (item_location p i)) (each_fails ss (suc i) ts p) (holds_empty s t (item_location p i))
      (each_empty ss (suc i) ts p)
