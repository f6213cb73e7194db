-- How many pairs meet.
use Rattle.std.specs.Prelude.{◌≡◌, ℕ, zero, suc, ◌+◌, ◌*◌, ◌≤◌, List, [], ◌∷◌, drop, sum_by, Bool, true, false}
use Rattle.std.specs.Prelude.{if◌then◌else◌}
use Rattle.std.proofs.Common.{refl, sym, ◌∙◌, ap, ap₂, subst, arith}
use Rattle.std.proofs.lemmas.List.Sums.{sum_by-cons, sum_by-le-sum_by, sum_by-take-drop}
use Rattle.std.proofs.Math.Nat.{le_refl, le_trans}
use Rattle.jskw_value.specs.Tree.{Tree, array, Items, no_items, item, item_list, items}
use Rattle.jskw_report.specs.Keyword.{Schema, false_schema, schema_object, Keywords, no_keywords, keyword, Keyword}
use Rattle.jskw_report.specs.Keyword.{assertion, contains, each_of, rest_of, Schemas, no_schemas, schema}
use Rattle.jskw_report.specs.Holds.{holds, keyword_holds}
use Rattle.jskw_report.specs.Applications.{pairs, all_pairs, keyword_pairs, each_pairs, needed, all_needed}
use Rattle.jskw_report.specs.Applications.{keyword_needed, each_needed, sum_to_failure, schemas_at, all_schemas_at}
use Rattle.jskw_report.specs.Applications.{keyword_schemas_at, each_schemas_at, trees_at, items_at, pairs_at}
use Rattle.jskw_report.specs.Applications.{all_pairs_at, keyword_pairs_at, each_pairs_at, height, all_height}
use Rattle.jskw_report.specs.Applications.{keyword_height, each_height, sum_below}
use Rattle.jskw_report.specs.Laws.{PairsMeetAtOneDepth}

-- the sum of two numbers is no greater where neither number is
sums-le : {a b c d : ℕ} → a ≤ b → c ≤ d → a + c ≤ b + d
sums-le h k = omega arith

-- ---- what is needed

-- a number that counts in one case alone is no greater
some_of : (b : Bool) (m n : ℕ) → m ≤ n → (if b then m else 0) ≤ n
some_of true m n h = h
some_of false m n h = omega arith

-- a sum up to the first failure is part of the whole sum
sum_to_failure-le : (h : Tree → Bool) (f g : Tree → ℕ) → ((t : Tree) → f t ≤ g t) → (ts : List Tree)
    → sum_to_failure h f ts ≤ sum_by g ts
sum_to_failure-le h f g e [] = omega arith
sum_to_failure-le h f g e (t ∷ ts) =
    subst (λ n. sum_to_failure h f (t ∷ ts) ≤ n) (sym (sum_by-cons g t ts))
    (sums-le (e t) (some_of (h t) (sum_to_failure h f ts) (sum_by g ts) (sum_to_failure-le h f g e ts)))

mutual
  -- of the pairs of a schema
  pub needed-le : (s : Schema) (t : Tree) → needed s t ≤ pairs s t
  needed-le (false_schema q) t = le_refl 1
  needed-le (schema_object q marks ks) t = sums-le (le_refl 1) (all_needed-le ks t)

  -- of the pairs of keywords
  all_needed-le : (ks : Keywords) (t : Tree) → all_needed ks t ≤ all_pairs ks t
  all_needed-le no_keywords t = le_refl 0
  all_needed-le (keyword q k ks) t =
      sums-le (keyword_needed-le k t)
      (some_of (keyword_holds k t) (all_needed ks t) (all_pairs ks t) (all_needed-le ks t))

  -- of the pairs of a keyword
  keyword_needed-le : (k : Keyword) (t : Tree) → keyword_needed k t ≤ keyword_pairs k t
  keyword_needed-le (assertion q a) t = le_refl 0
  keyword_needed-le (contains s b) t = sum_by-le-sum_by (needed s) (pairs s) (items t) (λ u. needed-le s u)
  keyword_needed-le (each_of prefix ss) t = each_needed-le ss (items t)
  keyword_needed-le (rest_of additional n s true) t = le_refl 0
  keyword_needed-le (rest_of additional n s false) t =
      sum_to_failure-le (holds s) (needed s) (pairs s) (λ u. needed-le s u) (drop n (items t))

  -- of the pairs of schemas and the items of their indices
  each_needed-le : (ss : Schemas) (ts : List Tree) → each_needed ss ts ≤ each_pairs ss ts
  each_needed-le no_schemas ts = le_refl 0
  each_needed-le (schema s ss) [] = le_refl 0
  each_needed-le (schema s ss) (t ∷ ts) =
      sums-le (needed-le s t) (some_of (holds s t) (each_needed ss ts) (each_pairs ss ts) (each_needed-le ss ts))

-- ---- one depth

-- the number of trees that lie d deep in the trees of a list
total : List Tree → ℕ → ℕ
total [] d = 0
total (t ∷ ts) d = trees_at t d + total ts d

-- the trees that lie d deep in the items of an array
total-item_list : (ts : Items) (d : ℕ) → total (item_list ts) d ≡ items_at ts d
unfolding total
total-item_list no_items d = refl
total-item_list (item t ts) d = ap (λ n. trees_at t d + n) (total-item_list ts d)

-- the trees that lie d deep in the items of a tree lie one deeper in the tree
total-items : (t : Tree) (d : ℕ) → total (items t) d ≡ trees_at t (suc d)
unfolding total
total-items (array ts) d = total-item_list ts d
total-items _ d = refl

-- two numbers within products of one right factor
products-le : (a b c : ℕ) {m n : ℕ} → m ≤ a * c → n ≤ b * c → m + n ≤ (a + b) * c
products-le a b c h k = omega arith

-- two numbers within products are within the product of the sums
both-le : (a b x y : ℕ) {m n : ℕ} → m ≤ a * x → n ≤ b * y → m + n ≤ (a + b) * (x + y)
both-le a b x y h k = omega arith

-- of a schema, of which a lie d deep, and the items of a list: no more than a times the trees that lie d deep in them
items_meet : (a d : ℕ) (c : Tree → ℕ) → ((t : Tree) → c t ≤ a * trees_at t d) → (ts : List Tree)
    → sum_by c ts ≤ a * total ts d
unfolding total
items_meet a d c e [] = omega arith
items_meet a d c e (t ∷ ts) = step (trees_at t d) (total ts d) _ (e t) (items_meet a d c e ts) (sum_by-cons c t ts)
  where
    step : (x y n : ℕ) {m k : ℕ} → m ≤ a * x → k ≤ a * y → n ≡ m + k → n ≤ a * (x + y)
    step x y n h i j = omega arith

-- a sum over the items from an index on is part of the sum over all
drop-le : (c : Tree → ℕ) (ts : List Tree) (i : ℕ) → sum_by c (drop i ts) ≤ sum_by c ts
drop-le c ts i = omega (arith, sum_by-take-drop c ts i)

-- a bound by the trees in the items of t is one by the trees that lie deeper in t
below_items : (a d : ℕ) (t : Tree) {m : ℕ} → m ≤ a * total (items t) d → m ≤ a * trees_at t (suc d)
below_items a d t {m} h = subst (λ x. m ≤ a * x) (total-items t d) h

mutual
  unfolding total

  -- of the pairs d deep of a schema
  pub pairs_at-le : (s : Schema) (t : Tree) (d : ℕ) → pairs_at s t d ≤ schemas_at s d * trees_at t d
  pairs_at-le (false_schema q) t zero = le_refl 1
  pairs_at-le (false_schema q) t (suc d) = omega arith
  pairs_at-le (schema_object q marks ks) t zero = le_refl 1
  pairs_at-le (schema_object q marks ks) t (suc d) = all_pairs_at-le ks t d

  -- of the pairs d deep of keywords, and the trees one deeper
  all_pairs_at-le : (ks : Keywords) (t : Tree) (d : ℕ) → all_pairs_at ks t d ≤ all_schemas_at ks d * trees_at t (suc d)
  all_pairs_at-le no_keywords t d = omega arith
  all_pairs_at-le (keyword q k ks) t d =
      products-le (keyword_schemas_at k d) (all_schemas_at ks d) (trees_at t (suc d)) (keyword_pairs_at-le k t d)
      (all_pairs_at-le ks t d)

  -- of the pairs d deep of a keyword, and the trees one deeper
  keyword_pairs_at-le : (k : Keyword) (t : Tree) (d : ℕ)
      → keyword_pairs_at k t d ≤ keyword_schemas_at k d * trees_at t (suc d)
  keyword_pairs_at-le (assertion q a) t d = omega arith
  keyword_pairs_at-le (contains s b) t d =
      below_items (schemas_at s d) d t
      (items_meet (schemas_at s d) d (λ u. pairs_at s u d) (λ u. pairs_at-le s u d) (items t))
  keyword_pairs_at-le (each_of prefix ss) t d = below_items (each_schemas_at ss d) d t (each_pairs_at-le ss (items t) d)
  keyword_pairs_at-le (rest_of additional n s true) t d = omega arith
  keyword_pairs_at-le (rest_of additional n s false) t d = below_items (schemas_at s d) d t
      (le_trans (drop-le (λ u. pairs_at s u d) (items t) n)
      (items_meet (schemas_at s d) d (λ u. pairs_at s u d) (λ u. pairs_at-le s u d) (items t)))

  -- of the pairs d deep of schemas and the items of their indices
  each_pairs_at-le : (ss : Schemas) (ts : List Tree) (d : ℕ) → each_pairs_at ss ts d ≤ each_schemas_at ss d * total ts d
  each_pairs_at-le no_schemas ts d = omega arith
  each_pairs_at-le (schema s ss) [] d = omega arith
  each_pairs_at-le (schema s ss) (t ∷ ts) d =
      both-le (schemas_at s d) (each_schemas_at ss d) (trees_at t d) (total ts d) (pairs_at-le s t d)
      (each_pairs_at-le ss ts d)

-- ---- all depths

-- a sum of zeros
sum_below-zero : (n : ℕ) → sum_below n (λ d. 0) ≡ 0
sum_below-zero zero = refl
sum_below-zero (suc n) = omega (arith, sum_below-zero n)

-- a sum of sums of two
sum_below-add : (n : ℕ) (f g : ℕ → ℕ) → sum_below n (λ d. f d + g d) ≡ sum_below n f + sum_below n g
sum_below-add zero f g = refl
sum_below-add (suc n) f g = omega (arith, sum_below-add n (λ d. f (suc d)) (λ d. g (suc d)))

-- a sum of equal numbers
sum_below-same : (n : ℕ) (f g : ℕ → ℕ) → ((d : ℕ) → f d ≡ g d) → sum_below n f ≡ sum_below n g
sum_below-same zero f g e = refl
sum_below-same (suc n) f g e =
    ap₂ (λ x y. x + y) (e 0) (sum_below-same n (λ d. f (suc d)) (λ d. g (suc d)) (λ d. e (suc d)))

-- a sum of numbers that are no greater
sum_below-le : (n : ℕ) (f g : ℕ → ℕ) → ((d : ℕ) → f d ≤ g d) → sum_below n f ≤ sum_below n g
sum_below-le zero f g e = le_refl 0
sum_below-le (suc n) f g e = sums-le (e 0) (sum_below-le n (λ d. f (suc d)) (λ d. g (suc d)) (λ d. e (suc d)))

-- a sum over the depths of a sum over the items is the sum of what each item sums up to
sum_below-items : (n : ℕ) (f : Tree → ℕ → ℕ) (c : Tree → ℕ) → ((t : Tree) → sum_below n (f t) ≡ c t) → (ts : List Tree)
    → sum_below n (λ d. sum_by (λ t. f t d) ts) ≡ sum_by c ts
sum_below-items n f c e [] = sum_below-zero n
sum_below-items n f c e (t ∷ ts) =
    sum_below-same n _ _ (λ d. sum_by-cons (λ t. f t d) t ts) ∙ sum_below-add n (f t) (λ d. sum_by (λ t. f t d) ts)
    ∙ ap₂ (λ x y. x + y) (e t) (sum_below-items n f c e ts) ∙ sym (sum_by-cons c t ts)

mutual
  -- the pairs of a schema, over its depths and any that lie deeper
  pub pairs-sum : (s : Schema) (t : Tree) (n : ℕ) → height s ≤ n → sum_below n (pairs_at s t) ≡ pairs s t
  pairs-sum (false_schema q) t zero h = absurd (omega arith)
  pairs-sum (false_schema q) t (suc n) h = ap (λ m. 1 + m) (sum_below-zero n)
  pairs-sum (schema_object q marks ks) t zero h = absurd (omega arith)
  pairs-sum (schema_object q marks ks) t (suc n) h = ap (λ m. 1 + m) (all_pairs-sum ks t n (omega arith))

  -- the pairs of keywords, over the depths of their subschemas and any that lie deeper
  all_pairs-sum : (ks : Keywords) (t : Tree) (n : ℕ) → all_height ks ≤ n
      → sum_below n (all_pairs_at ks t) ≡ all_pairs ks t
  all_pairs-sum no_keywords t n h = sum_below-zero n
  all_pairs-sum (keyword q k ks) t n h = sum_below-add n (keyword_pairs_at k t) (all_pairs_at ks t)
      ∙ ap₂ (λ x y. x + y) (keyword_pairs-sum k t n (omega arith)) (all_pairs-sum ks t n (omega arith))

  -- the pairs of a keyword, over the depths of its subschemas and any that lie deeper
  keyword_pairs-sum : (k : Keyword) (t : Tree) (n : ℕ) → keyword_height k ≤ n
      → sum_below n (keyword_pairs_at k t) ≡ keyword_pairs k t
  keyword_pairs-sum (assertion q a) t n h = sum_below-zero n
  keyword_pairs-sum (contains s b) t n h = sum_below-items n (pairs_at s) (pairs s) (λ u. pairs-sum s u n h) (items t)
  keyword_pairs-sum (each_of prefix ss) t n h = each_pairs-sum ss (items t) n h
  keyword_pairs-sum (rest_of additional i s true) t n h = sum_below-zero n
  keyword_pairs-sum (rest_of additional i s false) t n h =
      sum_below-items n (pairs_at s) (pairs s) (λ u. pairs-sum s u n h) (drop i (items t))

  -- the pairs of schemas and the items of their indices, over the depths of the schemas and any that lie deeper
  each_pairs-sum : (ss : Schemas) (ts : List Tree) (n : ℕ) → each_height ss ≤ n
      → sum_below n (each_pairs_at ss ts) ≡ each_pairs ss ts
  each_pairs-sum no_schemas ts n h = sum_below-zero n
  each_pairs-sum (schema s ss) [] n h = sum_below-zero n
  each_pairs-sum (schema s ss) (t ∷ ts) n h = sum_below-add n (pairs_at s t) (each_pairs_at ss ts)
      ∙ ap₂ (λ x y. x + y) (pairs-sum s t n (omega arith)) (each_pairs-sum ss ts n (omega arith))

-- the law
pub pairs_meet : PairsMeetAtOneDepth
pairs_meet = record {
  over_depths = λ s t. pairs-sum s t (height s) (le_refl (height s));
  at_each = pairs_at-le;
  at_all =
      λ s t. subst (λ n. n ≤ sum_below (height s) (λ d. schemas_at s d * trees_at t d))
      (pairs-sum s t (height s) (le_refl (height s)))
      (sum_below-le (height s) (pairs_at s t) (λ d. schemas_at s d * trees_at t d) (pairs_at-le s t));
}
