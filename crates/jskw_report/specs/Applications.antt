-- How many pairs there are of a schema or subschema and of the instance or item that it meets. An application is an
-- observation of such a pair; the code makes no more of them than there are pairs.
use Rattle.std.specs.Prelude.{ℕ, zero, suc, ◌+◌, max, List, [], ◌∷◌, drop, sum_by, Bool, true, false, if◌then◌else◌}
use Rattle.jskw_value.specs.Tree.{Tree, array, Items, no_items, item, items}
use Rattle.jskw_report.specs.Keyword.{Schema, false_schema, schema_object, Keywords, no_keywords, keyword, Keyword}
use Rattle.jskw_report.specs.Keyword.{assertion, contains, each_of, rest_of, Schemas, no_schemas, schema}
use Rattle.jskw_report.specs.Holds.{holds, keyword_holds}

-- ---- all pairs

abbrev mutual
  -- the pair of the schema and the tree, and those that its keywords make meet
  pub pairs : Schema → Tree → ℕ
  pairs (false_schema q) t = 1
  pairs (schema_object q marks ks) t = 1 + all_pairs ks t

  -- the pairs that the keywords make meet
  pub all_pairs : Keywords → Tree → ℕ
  all_pairs no_keywords t = 0
  all_pairs (keyword q k ks) t = keyword_pairs k t + all_pairs ks t

  -- the pairs of the keyword's subschemas and the items: a bare type check of the items makes none meet
  pub keyword_pairs : Keyword → Tree → ℕ
  keyword_pairs (assertion q a) t = 0
  keyword_pairs (contains s b) t = sum_by (pairs s) (items t)
  keyword_pairs (each_of prefix ss) t = each_pairs ss (items t)
  keyword_pairs (rest_of additional n s true) t = 0
  keyword_pairs (rest_of additional n s false) t = sum_by (pairs s) (drop n (items t))

  -- the pairs of each schema and the item of its index, as far as both go
  pub each_pairs : Schemas → List Tree → ℕ
  each_pairs no_schemas ts = 0
  each_pairs (schema s ss) [] = 0
  each_pairs (schema s ss) (t ∷ ts) = pairs s t + each_pairs ss ts

-- ---- up to the first failure

-- the sum of the costs of the items up to the first that fails, that one included
abbrev pub sum_to_failure : (Tree → Bool) → (Tree → ℕ) → List Tree → ℕ
sum_to_failure passes cost [] = 0
sum_to_failure passes cost (t ∷ ts) = cost t + (if passes t then sum_to_failure passes cost ts else 0)

abbrev mutual
  -- the pairs of the schema and the tree that are left where nothing is applied behind the first failure
  pub needed : Schema → Tree → ℕ
  needed (false_schema q) t = 1
  needed (schema_object q marks ks) t = 1 + all_needed ks t

  -- the pairs that are needed of the keywords up to the first that fails, that one included
  pub all_needed : Keywords → Tree → ℕ
  all_needed no_keywords t = 0
  all_needed (keyword q k ks) t = keyword_needed k t + (if keyword_holds k t then all_needed ks t else 0)

  -- the pairs that are needed of the keyword's subschemas and the items: `contains` asks all of them
  pub keyword_needed : Keyword → Tree → ℕ
  keyword_needed (assertion q a) t = 0
  keyword_needed (contains s b) t = sum_by (needed s) (items t)
  keyword_needed (each_of prefix ss) t = each_needed ss (items t)
  keyword_needed (rest_of additional n s true) t = 0
  keyword_needed (rest_of additional n s false) t = sum_to_failure (holds s) (needed s) (drop n (items t))

  -- the pairs that are needed of each schema and the item of its index, up to the first that fails
  pub each_needed : Schemas → List Tree → ℕ
  each_needed no_schemas ts = 0
  each_needed (schema s ss) [] = 0
  each_needed (schema s ss) (t ∷ ts) = needed s t + (if holds s t then each_needed ss ts else 0)

-- ---- either of them

-- the pairs of the schema and the tree: all, or those up to the first failure
abbrev pub applications : Bool → Schema → Tree → ℕ
applications true s t = pairs s t
applications false s t = needed s t

-- the pairs that the keywords make meet
abbrev pub all_applications : Bool → Keywords → Tree → ℕ
all_applications true ks t = all_pairs ks t
all_applications false ks t = all_needed ks t

-- ---- depth

abbrev mutual
  -- the number of pairs that lie d deep: the schema and the tree lie at depth 0, and a subschema and an item that a
  -- keyword makes meet lie one deeper than the schema that has the keyword and the array
  pub pairs_at : Schema → Tree → ℕ → ℕ
  pairs_at (false_schema q) t zero = 1
  pairs_at (false_schema q) t (suc d) = 0
  pairs_at (schema_object q marks ks) t zero = 1
  pairs_at (schema_object q marks ks) t (suc d) = all_pairs_at ks t d

  -- the pairs that the keywords make meet, d deep below the items
  pub all_pairs_at : Keywords → Tree → ℕ → ℕ
  all_pairs_at no_keywords t d = 0
  all_pairs_at (keyword q k ks) t d = keyword_pairs_at k t d + all_pairs_at ks t d

  -- the pairs of the keyword's subschemas and the items, d deep below the items
  pub keyword_pairs_at : Keyword → Tree → ℕ → ℕ
  keyword_pairs_at (assertion q a) t d = 0
  keyword_pairs_at (contains s b) t d = sum_by (λ u. pairs_at s u d) (items t)
  keyword_pairs_at (each_of prefix ss) t d = each_pairs_at ss (items t) d
  keyword_pairs_at (rest_of additional n s true) t d = 0
  keyword_pairs_at (rest_of additional n s false) t d = sum_by (λ u. pairs_at s u d) (drop n (items t))

  -- the pairs d deep of each schema and the item of its index, as far as both go
  pub each_pairs_at : Schemas → List Tree → ℕ → ℕ
  each_pairs_at no_schemas ts d = 0
  each_pairs_at (schema s ss) [] d = 0
  each_pairs_at (schema s ss) (t ∷ ts) d = pairs_at s t d + each_pairs_at ss ts d

abbrev mutual
  -- the number of schemas that lie d deep: a subschema of a keyword lies one deeper than the schema that has the
  -- keyword
  pub schemas_at : Schema → ℕ → ℕ
  schemas_at (false_schema q) zero = 1
  schemas_at (false_schema q) (suc d) = 0
  schemas_at (schema_object q marks ks) zero = 1
  schemas_at (schema_object q marks ks) (suc d) = all_schemas_at ks d

  -- the number of schemas that lie d deep in the subschemas of the keywords
  pub all_schemas_at : Keywords → ℕ → ℕ
  all_schemas_at no_keywords d = 0
  all_schemas_at (keyword q k ks) d = keyword_schemas_at k d + all_schemas_at ks d

  -- the number of schemas that lie d deep in the subschemas of the keyword
  pub keyword_schemas_at : Keyword → ℕ → ℕ
  keyword_schemas_at (assertion q a) d = 0
  keyword_schemas_at (contains s b) d = schemas_at s d
  keyword_schemas_at (each_of prefix ss) d = each_schemas_at ss d
  keyword_schemas_at (rest_of additional n s bare) d = schemas_at s d

  -- the number of schemas that lie d deep in the schemas of the list
  pub each_schemas_at : Schemas → ℕ → ℕ
  each_schemas_at no_schemas d = 0
  each_schemas_at (schema s ss) d = schemas_at s d + each_schemas_at ss d

abbrev mutual
  -- the number of trees that lie d deep: an item lies one deeper than its array
  pub trees_at : Tree → ℕ → ℕ
  trees_at t zero = 1
  trees_at (array ts) (suc d) = items_at ts d
  trees_at t (suc d) = 0

  -- the number of trees that lie d deep in the items
  pub items_at : Items → ℕ → ℕ
  items_at no_items d = 0
  items_at (item t ts) d = trees_at t d + items_at ts d

abbrev mutual
  -- the depth below which no subschema lies
  pub height : Schema → ℕ
  height (false_schema q) = 1
  height (schema_object q marks ks) = 1 + all_height ks

  -- the depth in the subschemas of the keywords below which none lies
  pub all_height : Keywords → ℕ
  all_height no_keywords = 0
  all_height (keyword q k ks) = max (keyword_height k) (all_height ks)

  -- the depth in the subschemas of the keyword below which none lies
  pub keyword_height : Keyword → ℕ
  keyword_height (assertion q a) = 0
  keyword_height (contains s b) = height s
  keyword_height (each_of prefix ss) = each_height ss
  keyword_height (rest_of additional n s bare) = height s

  -- the depth in the schemas of the list below which no subschema lies
  pub each_height : Schemas → ℕ
  each_height no_schemas = 0
  each_height (schema s ss) = max (height s) (each_height ss)

-- the sum of f d over the d below n
abbrev pub sum_below : ℕ → (ℕ → ℕ) → ℕ
sum_below zero f = 0
sum_below (suc n) f = f 0 + sum_below n (λ d. f (suc d))
