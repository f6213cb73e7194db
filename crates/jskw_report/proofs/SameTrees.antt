-- Trees that are the same can't be told apart.
use Rattle.std.proofs.Common.{◌≡◌, ℕ, suc, ◌+◌, List, [], ◌∷◌, ◌++◌, map, nat_lt, Bool, true, false, not, ◌||◌}
use Rattle.std.proofs.Common.{if◌then◌else◌, Some, None, refl, sym, ap, ap₂, subst, ◌∙◌}
use Rattle.std.proofs.lemmas.Bool.{true≢false}
use Rattle.jskw_value.specs.Pointer.{Pointer, item_location}
use Rattle.jskw_value.specs.Tree.{Tree, is_array}
use Rattle.jskw_value.proofs.Booleans.{both}
use Rattle.jskw_report.specs.Kind.{ErrorKind, keyword_of}
use Rattle.jskw_report.specs.Kind as kind
use Rattle.jskw_report.specs.Keyword.{Schema, false_schema, schema_object, Keywords, no_keywords, keyword, Keyword}
use Rattle.jskw_report.specs.Keyword.{assertion, contains, each_of, rest_of, Schemas, no_schemas, schema, Bounds}
use Rattle.jskw_report.specs.Holds.{count_holds, holds, all_hold, keyword_holds, each_holds}
use Rattle.jskw_report.specs.Fail.{Failure, error_kinds, contains_fails, failing_bound, each_item, fail, all_fail}
use Rattle.jskw_report.specs.Fail.{keyword_fail, each_fails, is_empty}
use Rattle.jskw_report.specs.Evaluation.{Evaluation, node_at, of_errors, of_children, evaluate_each, evaluate_matching}
use Rattle.jskw_report.specs.Evaluation.{matching_indices, tree, units, unit, evaluate_pairs, prefix_annotation}
use Rattle.jskw_report.specs.Evaluation.{schema_count, flag, indices}
use Rattle.jskw_report.specs.Applications.{pairs, all_pairs, keyword_pairs, each_pairs, needed, all_needed}
use Rattle.jskw_report.specs.Applications.{keyword_needed, each_needed}
use Rattle.jskw_report.specs.Laws.{SameFailure, SameFailures, SaysTheSame, SameTreesAreOne}
use Rattle.jskw_report.proofs.AssertionLaws.{assertion_same, error_kinds_same}
use Rattle.jskw_report.proofs.Twins.{Twin, Twins, no_twins, twins, Shared, all_same, array_same, matches_same, sum_same}
use Rattle.jskw_report.proofs.Twins.{to_failure_same, twin_items, twins_drop, twins_length}

-- ---- verdicts

mutual
  -- whether a schema holds
  pub holds_same : (s : Schema) → Shared (holds s)
  holds_same (false_schema q) t u w = refl
  holds_same (schema_object q marks ks) t u w = all_hold_same ks t u w

  -- whether keywords hold
  all_hold_same : (ks : Keywords) → Shared (all_hold ks)
  all_hold_same no_keywords t u w = refl
  all_hold_same (keyword q k ks) t u w = both (keyword_holds_same k t u w) (all_hold_same ks t u w)

  -- whether a keyword holds
  pub keyword_holds_same : (k : Keyword) → Shared (keyword_holds k)
  keyword_holds_same (assertion q a) t u w = assertion_same a t u w
  keyword_holds_same (contains s b) t u w =
      ap₂ (λ a n. not a || count_holds b n) (array_same t u w)
      (matches_same (holds s) (λ t u w. holds_same s t u w) _ _ (twin_items t u w))
  keyword_holds_same (each_of prefix ss) t u w = each_holds_same ss _ _ (twin_items t u w)
  keyword_holds_same (rest_of additional n s bare) t u w =
      all_same (holds s) (λ t u w. holds_same s t u w) _ _ (twins_drop n _ _ (twin_items t u w))

  -- whether schemas hold of the items of their indices
  each_holds_same : (ss : Schemas) (ts us : List Tree) → Twins ts us → each_holds ss ts ≡ each_holds ss us
  each_holds_same no_schemas ts us w = refl
  each_holds_same (schema s ss) _ _ no_twins = refl
  each_holds_same (schema s ss) _ _ (twins {t} {u} {ts} {us} w ws) =
      both (holds_same s t u w) (each_holds_same ss ts us ws)

-- ---- failures

-- lists of the same failures, one after the other
joined : (es fs gs hs : List Failure) → SameFailures es gs → SameFailures fs hs → SameFailures (es ++ fs) (gs ++ hs)
joined [] fs [] hs v w = w
joined (e ∷ es) fs (g ∷ gs) hs v w = (v.0, joined es fs gs hs v.1 w)
joined [] fs (g ∷ gs) hs v w = absurd v
joined (e ∷ es) fs [] hs v w = absurd v

-- the error of the kind k, of the tree t at p, by the keyword at q
abbrev failed : Pointer → Pointer → Tree → ErrorKind → Failure
failed p q t k = record { kind = k; instance_location = p; keyword_location = q; tree = t }

-- failures that are made one by one are the same
mapped : {X : Type 0} (f g : X → Failure) → ((x : X) → SameFailure (f x) (g x)) → (xs ys : List X) → xs ≡ ys
    → SameFailures (map f xs) (map g ys)
mapped {X} f g h xs ys e = subst (λ ys. SameFailures (map f xs) (map g ys)) e (each xs)
  where
    each : (xs : List X) → SameFailures (map f xs) (map g xs)
    each [] = tt
    each (x ∷ xs) = (h x, each xs)

-- errors of the same tree at one location
failed_same : (p q : Pointer) (t u : Tree) (k : ErrorKind) → Twin t u → SameFailure (failed p q t k) (failed p q u k)
failed_same p q t u k w = record { kind = refl; instance_location = refl; keyword_location = refl; tree = w.alike }

-- the failures of `contains`, where as many items match
contains_same : (b : Bounds) (m n : ℕ) (t u : Tree) (p : Pointer) (a c : Bool) → m ≡ n → a ≡ c → Twin t u
    → SameFailures (if a then contains_fails b m t p else []) (if c then contains_fails b n u p else [])
contains_same b m n t u p true true e f w =
    mapped _ _ (λ q. failed_same p q t u kind.Contains w) (failing_bound b m) (failing_bound b n)
    (ap (failing_bound b) e)
contains_same b m n t u p false false e f w = tt
contains_same b m n t u p true false e f w = absurd (true≢false f)
contains_same b m n t u p false true e f w = absurd (true≢false (sym f))

-- a function that gives twins the same failures
abbrev FailsAlike : (Tree → Pointer → List Failure) → Type 0
FailsAlike f = (t u : Tree) → Twin t u → (p : Pointer) → SameFailures (f t p) (f u p)

-- the failures of the items in turn
each_item_same : (f : Tree → Pointer → List Failure) → FailsAlike f → (i : ℕ) (ts us : List Tree) (p : Pointer)
    → Twins ts us → SameFailures (each_item f i ts p) (each_item f i us p)
each_item_same f e i _ _ p no_twins = tt
each_item_same f e i _ _ p (twins {t} {u} {ts} {us} w ws) =
    joined (f t (item_location p i)) _ (f u (item_location p i)) _ (e t u w (item_location p i))
    (each_item_same f e (suc i) ts us p ws)

mutual
  -- the failures of a schema
  pub fail_same : (s : Schema) → FailsAlike (fail s)
  fail_same (false_schema q) t u w p =
      (record { kind = refl; instance_location = refl; keyword_location = refl; tree = w.alike }, tt)
  fail_same (schema_object q marks ks) t u w p = all_fail_same ks t u w p

  -- the failures of keywords
  all_fail_same : (ks : Keywords) → FailsAlike (all_fail ks)
  all_fail_same no_keywords t u w p = tt
  all_fail_same (keyword q k ks) t u w p =
      joined (keyword_fail k t p) _ (keyword_fail k u p) _ (keyword_fail_same k t u w p) (all_fail_same ks t u w p)

  -- the failures of a keyword
  pub keyword_fail_same : (k : Keyword) → FailsAlike (keyword_fail k)
  keyword_fail_same (assertion q a) t u w p =
      mapped (failed p q t) (failed p q u) (λ k. failed_same p q t u k w) (error_kinds a t) (error_kinds a u)
      (error_kinds_same a t u w)
  keyword_fail_same (contains s b) t u w p =
      contains_same b _ _ t u p (is_array t) (is_array u) (matches_same (holds s) (holds_same s) _ _ (twin_items t u w))
      (array_same t u w) w
  keyword_fail_same (each_of prefix ss) t u w p = each_fails_same ss 0 _ _ p (twin_items t u w)
  keyword_fail_same (rest_of additional n s bare) t u w p =
      each_item_same (fail s) (λ t u w p. fail_same s t u w p) n _ _ p (twins_drop n _ _ (twin_items t u w))

  -- the failures of schemas over the items of their indices
  each_fails_same : (ss : Schemas) (i : ℕ) (ts us : List Tree) (p : Pointer) → Twins ts us
      → SameFailures (each_fails ss i ts p) (each_fails ss i us p)
  each_fails_same no_schemas i ts us p w = tt
  each_fails_same (schema s ss) i _ _ p no_twins = tt
  each_fails_same (schema s ss) i _ _ p (twins {t} {u} {ts} {us} w ws) =
      joined (fail s t (item_location p i)) _ (fail s u (item_location p i)) _ (fail_same s t u w (item_location p i))
      (each_fails_same ss (suc i) ts us p ws)

-- ---- evaluation trees

-- the same failures make one result
errors_same : (es fs : List Failure) → SameFailures es fs → of_errors es ≡ of_errors fs
unfolding of_errors
errors_same es fs w =
    ap₂ (λ (valid : Bool) (ds : List (List ℕ)).
    record { valid = valid; annotation = None; descriptions = ds; children = [] }) (empty_same es fs w)
    (descriptions_same es fs w)
  where
    empty_same : (es fs : List Failure) → SameFailures es fs → is_empty es ≡ is_empty fs
    empty_same [] [] w = refl
    empty_same (e ∷ es) (f ∷ fs) w = refl
    empty_same [] (f ∷ fs) w = absurd w
    empty_same (e ∷ es) [] w = absurd w

    descriptions_same : (es fs : List Failure) → SameFailures es fs
        → map (λ f. keyword_of f.kind) es ≡ map (λ f. keyword_of f.kind) fs
    descriptions_same [] [] w = refl
    descriptions_same (e ∷ es) (f ∷ fs) w =
        ap₂ (λ (k : ErrorKind) (ds : List (List ℕ)). keyword_of k ∷ ds) w.0.kind (descriptions_same es fs w.1)
    descriptions_same [] (f ∷ fs) w = absurd w
    descriptions_same (e ∷ es) [] w = absurd w

-- a function that gives twins the same evaluation
abbrev EvaluatesAlike : (Tree → Pointer → Evaluation) → Type 0
EvaluatesAlike f = (t u : Tree) → Twin t u → (p : Pointer) → f t p ≡ f u p

-- the nodes of the items in turn
evaluate_each_same : (f : Tree → Pointer → Evaluation) → EvaluatesAlike f → (i : ℕ) (ts us : List Tree) (p : Pointer)
    → Twins ts us → evaluate_each f i ts p ≡ evaluate_each f i us p
evaluate_each_same f e i _ _ p no_twins = refl
evaluate_each_same f e i _ _ p (twins {t} {u} {ts} {us} w ws) =
    ap₂ (λ x xs. x ∷ xs) (e t u w (item_location p i)) (evaluate_each_same f e (suc i) ts us p ws)

-- a choice of the same two by the same test
if_same : {A : Type 0} {a b : Bool} {x y v w : A} → a ≡ b → x ≡ v → y ≡ w → (if a then x else y) ≡ (if b then v else w)
if_same {b} {x} {y} e f g = ap (λ a. if a then x else y) e ∙ ap₂ (λ x y. if b then x else y) f g

-- the nodes of the items that match
evaluate_matching_same : (h : Tree → Bool) (f : Tree → Pointer → Evaluation) → Shared h → EvaluatesAlike f
    → (i : ℕ) (ts us : List Tree) (p : Pointer) → Twins ts us
    → evaluate_matching h f i ts p ≡ evaluate_matching h f i us p
evaluate_matching_same h f e g i _ _ p no_twins = refl
evaluate_matching_same h f e g i _ _ p (twins {t} {u} {ts} {us} w ws) =
    let rest = evaluate_matching_same h f e g (suc i) ts us p ws in
    if_same (e t u w) (ap₂ (λ x xs. x ∷ xs) (g t u w (item_location p i)) rest) rest

-- the indices of the items that match
matching_indices_same : (h : Tree → Bool) → Shared h → (i : ℕ) (ts us : List Tree) → Twins ts us
    → matching_indices h i ts ≡ matching_indices h i us
matching_indices_same h e i _ _ no_twins = refl
matching_indices_same h e i _ _ (twins {t} {u} {ts} {us} w ws) =
    let rest = matching_indices_same h e (suc i) ts us ws in if_same (e t u w) (ap (λ xs. i ∷ xs) rest) rest

mutual
  -- the node of a schema
  pub tree_same : (s : Schema) → EvaluatesAlike (tree s)
  tree_same (false_schema q) t u w p = refl
  tree_same (schema_object q marks ks) t u w p = ap (λ es. node_at q p (of_children None es)) (units_same ks t u w p)

  -- the nodes of keywords
  units_same : (ks : Keywords) (t u : Tree) → Twin t u → (p : Pointer) → units ks t p ≡ units ks u p
  units_same no_keywords t u w p = refl
  units_same (keyword q k ks) t u w p = ap₂ (λ r es. node_at q p r ∷ es) (unit_same k t u w p) (units_same ks t u w p)

  -- the result of a keyword
  pub unit_same : (k : Keyword) (t u : Tree) → Twin t u → (p : Pointer) → unit k t p ≡ unit k u p
  unit_same (assertion q a) t u w p = errors_same _ _ (keyword_fail_same (assertion q a) t u w p)
  unit_same (contains s b) t u w p = if_same (keyword_holds_same (contains s b) t u w)
      (ap₂ (λ (is : List ℕ) (es : List Evaluation).
      record { valid = true; annotation = Some (indices is); descriptions = []; children = es })
      (matching_indices_same (holds s) (holds_same s) 0 _ _ (twin_items t u w))
      (evaluate_matching_same (holds s) (tree s) (holds_same s) (λ t u w p. tree_same s t u w p) 0 _ _ p
      (twin_items t u w)))
      (errors_same _ _ (keyword_fail_same (contains s b) t u w p))
  unit_same (each_of prefix ss) t u w p =
      ap₂ of_children
      (ap (λ n. if prefix then prefix_annotation (schema_count ss) n else None) (twins_length _ _ (twin_items t u w)))
      (evaluate_pairs_same ss 0 _ _ p (twin_items t u w))
  unit_same (rest_of true n s bare) t u w p = errors_same _ _ (keyword_fail_same (rest_of true n s bare) t u w p)
  unit_same (rest_of false n s bare) t u w p = if_same (array_same t u w)
      (ap₂ of_children (ap (λ m. Some (flag (nat_lt n m))) (twins_length _ _ (twin_items t u w)))
      (evaluate_each_same (tree s) (λ t u w p. tree_same s t u w p) n _ _ p (twins_drop n _ _ (twin_items t u w))))
      refl

  -- the nodes of schemas over the items of their indices
  evaluate_pairs_same : (ss : Schemas) (i : ℕ) (ts us : List Tree) (p : Pointer) → Twins ts us
      → evaluate_pairs ss i ts p ≡ evaluate_pairs ss i us p
  evaluate_pairs_same no_schemas i ts us p w = refl
  evaluate_pairs_same (schema s ss) i _ _ p no_twins = refl
  evaluate_pairs_same (schema s ss) i _ _ p (twins {t} {u} {ts} {us} w ws) =
      ap₂ (λ x xs. x ∷ xs) (tree_same s t u w (item_location p i)) (evaluate_pairs_same ss (suc i) ts us p ws)

-- ---- counts

-- a sum of the same two numbers
plus_same : {a b c d : ℕ} → a ≡ c → b ≡ d → a + b ≡ c + d
plus_same e f = ap₂ (λ m n. m + n) e f

mutual
  -- the pairs of a schema
  pub pairs_same : (s : Schema) → Shared (pairs s)
  pairs_same (false_schema q) t u w = refl
  pairs_same (schema_object q marks ks) t u w = ap (λ n. 1 + n) (all_pairs_same ks t u w)

  -- the pairs of keywords
  all_pairs_same : (ks : Keywords) → Shared (all_pairs ks)
  all_pairs_same no_keywords t u w = refl
  all_pairs_same (keyword q k ks) t u w = plus_same (keyword_pairs_same k t u w) (all_pairs_same ks t u w)

  -- the pairs of a keyword
  keyword_pairs_same : (k : Keyword) → Shared (keyword_pairs k)
  keyword_pairs_same (assertion q a) t u w = refl
  keyword_pairs_same (contains s b) t u w = sum_same (pairs s) (λ t u w. pairs_same s t u w) _ _ (twin_items t u w)
  keyword_pairs_same (each_of prefix ss) t u w = each_pairs_same ss _ _ (twin_items t u w)
  keyword_pairs_same (rest_of additional n s true) t u w = refl
  keyword_pairs_same (rest_of additional n s false) t u w =
      sum_same (pairs s) (λ t u w. pairs_same s t u w) _ _ (twins_drop n _ _ (twin_items t u w))

  -- the pairs of schemas and the items of their indices
  each_pairs_same : (ss : Schemas) (ts us : List Tree) → Twins ts us → each_pairs ss ts ≡ each_pairs ss us
  each_pairs_same no_schemas ts us w = refl
  each_pairs_same (schema s ss) _ _ no_twins = refl
  each_pairs_same (schema s ss) _ _ (twins {t} {u} {ts} {us} w ws) =
      plus_same (pairs_same s t u w) (each_pairs_same ss ts us ws)

mutual
  -- the pairs that a schema needs
  pub needed_same : (s : Schema) → Shared (needed s)
  needed_same (false_schema q) t u w = refl
  needed_same (schema_object q marks ks) t u w = ap (λ n. 1 + n) (all_needed_same ks t u w)

  -- the pairs that keywords need
  all_needed_same : (ks : Keywords) → Shared (all_needed ks)
  all_needed_same no_keywords t u w = refl
  all_needed_same (keyword q k ks) t u w =
      plus_same (keyword_needed_same k t u w) (if_same (keyword_holds_same k t u w) (all_needed_same ks t u w) refl)

  -- the pairs that a keyword needs
  keyword_needed_same : (k : Keyword) → Shared (keyword_needed k)
  keyword_needed_same (assertion q a) t u w = refl
  keyword_needed_same (contains s b) t u w = sum_same (needed s) (λ t u w. needed_same s t u w) _ _ (twin_items t u w)
  keyword_needed_same (each_of prefix ss) t u w = each_needed_same ss _ _ (twin_items t u w)
  keyword_needed_same (rest_of additional n s true) t u w = refl
  keyword_needed_same (rest_of additional n s false) t u w =
      to_failure_same (holds s) (needed s) (holds_same s) (λ t u w. needed_same s t u w) _ _
      (twins_drop n _ _ (twin_items t u w))

  -- the pairs that schemas and the items of their indices need
  each_needed_same : (ss : Schemas) (ts us : List Tree) → Twins ts us → each_needed ss ts ≡ each_needed ss us
  each_needed_same no_schemas ts us w = refl
  each_needed_same (schema s ss) _ _ no_twins = refl
  each_needed_same (schema s ss) _ _ (twins {t} {u} {ts} {us} w ws) =
      plus_same (needed_same s t u w) (if_same (holds_same s t u w) (each_needed_same ss ts us ws) refl)

-- the law
pub same_trees : SameTreesAreOne
same_trees t u d e h s = says (record { left = d; right = e; alike = h })
  where
    says : Twin t u → SaysTheSame s t u
    says w =
        record {
          verdict =
              holds_same s t u w;
          failures =
              fail_same s t u w;
          evaluation =
              tree_same s t u w;
          applications = pairs_same s t u w;
          to_failure = needed_same s t u w;
        }
