-- The error of `contains`, and how often its schema is applied.
use Rattle.std.proofs.Common.{◌≡◌, ◌≤◌, ◌+◌, ◌∙◌, ℕ, suc, List, [], ◌∷◌, length, map, sum_by, count_by, nat_le, Bool}
use Rattle.std.proofs.Common.{true, false, cond, Some, None, refl, sym, ap, arith, zero-add, if◌then◌else◌}
use Rattle.std.proofs.lemmas.List.Sums.{sum_by-cons, sum_by-le-sum_by}
use Rattle.jskw_array.specs.Words.{Bounds, CountsUpTo, Evaluation, Failure, Pointer, Schema, Tree, contains}
use Rattle.jskw_array.specs.Words.{evaluate_matching, failing_bound, failing_locations, holds, indices, is_array}
use Rattle.jskw_array.specs.Words.{is_empty, items, keyword_fail, keyword_holds, matching_indices, matching_keyword}
use Rattle.jskw_array.specs.Words.{matching_result, meaning_applications, needed, of_errors, one_keyword, pairs, passes}
use Rattle.jskw_array.specs.Words.{tree, unit}
use Rattle.jskw_report.proofs.Pairs.{needed-le}
use Rattle.jskw_report.proofs.HoldsIsNoFailure.{keyword_empty}
use Rattle.jskw_report.specs.Kind as kind
use Rattle.jskw_array.specs.declared.matching.Matching.{Matching}

at_most_one : (f : Pointer → Failure) (b : Bounds) (array over low : Bool)
    → length (if array then map f (if over then b.many ∷ [] else (if low then [] else b.few ∷ [])) else []) ≤ 1
at_most_one f b true true low = omega arith
at_most_one f b true false true = omega arith
at_most_one f b true false false = omega arith
at_most_one f b false over low = omega arith

-- there is at most one
pub contains_once : (s : Schema) (b : Bounds) (t : Tree) (p : Pointer) → length (keyword_fail (contains s b) t p) ≤ 1
contains_once s b t p =
    let n = count_by (holds s) (items t) in
    at_most_one (λ q. record { kind = kind.Contains; instance_location = p; keyword_location = q; tree = t }) b
    (is_array t) (passes n b.upper) (nat_le b.lower n)

-- what is needed of the items is among their pairs
pub sum_needed : (s : Schema) (ts : List Tree) → sum_by (needed s) ts ≤ sum_by (pairs s) ts
sum_needed s ts = sum_by-le-sum_by (needed s) (pairs s) ts (λ u. needed-le s u)

-- whether all its errors are wanted or the first
matching_applied : {F Node Number Key : Type 0} (wanted : Bool) (v : Matching F Node Number Key) (t : Tree)
    → sum_by (needed v.node) (items t) ≤ meaning_applications wanted (one_keyword (matching_keyword v)) t
matching_applied true v t = sum_needed v.node (items t)
matching_applied false v t = omega arith

pub matching_within : {F Node Number Key : Type 0} (wanted : Bool) (v : Matching F Node Number Key) (t : Tree)
    {old new : ℕ} → CountsUpTo old new (sum_by (needed v.node) (items t))
    → CountsUpTo old new (meaning_applications wanted (one_keyword (matching_keyword v)) t)
matching_within wanted v t counted =
    record { from = counted.from; to = omega (arith, matching_applied wanted v t, counted.to) }

-- ---- the unit

-- as many items match as there are indices of them
indices_count : (m : Tree → Bool) (i : ℕ) (ts : List Tree) → length (matching_indices m i ts) ≡ count_by m ts
indices_count m i [] = refl
indices_count m i (t ∷ ts) = one_more (m t) (indices_count m (suc i) ts) ∙ sym (sum_by-cons (λ x. cond (m x) 1 0) t ts)
  where
    one_more : (b : Bool) → length (matching_indices m (suc i) ts) ≡ count_by m ts
        → length (if b then i ∷ matching_indices m (suc i) ts else matching_indices m (suc i) ts)
        ≡ cond b 1 0 + count_by m ts
    one_more true e = omega (arith, e)
    one_more false e = e ∙ sym (zero-add (count_by m ts))

-- by where `contains` fails, which is at one bound at most
by_fault : (f : Pointer → Failure) → ((q : Pointer) → (f q).kind ≡ kind.Contains)
    → (array valid : Bool) (qs : List Pointer) (is : List ℕ) (es : List Evaluation)
    → length (if array then map f qs else []) ≤ 1 → valid ≡ is_empty (if array then map f qs else [])
    → matching_result (if array then qs else []) is es
    ≡ (if valid then record { valid = true; annotation = Some (indices is); descriptions = []; children = es }
    else of_errors (if array then map f qs else []))
unfolding of_errors
by_fault f k false true qs is es once e = refl
by_fault f k false false qs is es once e = cc
by_fault f k true true [] is es once e = refl
by_fault f k true false [] is es once e = cc
by_fault f k true true (q ∷ qs) is es once e = cc
by_fault f k true false (q ∷ []) is es once e =
    ap (λ x. record { valid = false; annotation = None; descriptions = kind.keyword_of x ∷ []; children = [] })
    (sym (k q))
by_fault f k true false (q ∷ r ∷ qs) is es once e = absurd (omega (arith, once))

-- it is that of `contains`
pub matching_is_unit : (s : Schema) (b : Bounds) (t : Tree) (p : Pointer) → let is =
    matching_indices (holds s) 0 (items t) in
    matching_result (failing_locations b (length is) t) is (evaluate_matching (holds s) (tree s) 0 (items t) p)
    ≡ unit (contains s b) t p
matching_is_unit s b t p =
    let is = matching_indices (holds s) 0 (items t) in
    let es = evaluate_matching (holds s) (tree s) 0 (items t) p in
    ap (λ n. matching_result (failing_locations b n t) is es) (indices_count (holds s) 0 (items t))
    ∙ by_fault (λ q. record { kind = kind.Contains; instance_location = p; keyword_location = q; tree = t }) (λ q. refl)
    (is_array t) (keyword_holds (contains s b) t)
    (failing_bound b (count_by (holds s) (items t))) is es (contains_once s b t p) (keyword_empty (contains s b) t p)
