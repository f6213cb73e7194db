-- What is wrong with an instance: the errors of a schema, in the order of its keywords.
use Rattle.std.specs.Prelude.{ℕ, suc, nat_lt, nat_le, List, [], ◌∷◌, ◌++◌, map, drop, count_by, Bool, true, false}
use Rattle.std.specs.Prelude.{Option, Some, None, if◌then◌else◌}
use Rattle.jskw_value.specs.Pointer.{Pointer, item_location}
use Rattle.jskw_value.specs.Tree.{Tree, items, is_array}
pub use Rattle.jskw_report.specs.Assertions.{size_kind, limit_kind, kind_for, unless, missing, error_kinds}
use Rattle.jskw_report.specs.Holds.{holds}
use Rattle.jskw_report.specs.Keyword.{Schema, false_schema, schema_object, Keywords, no_keywords, keyword, Keyword}
use Rattle.jskw_report.specs.Keyword.{assertion, contains, each_of, rest_of, Schemas, no_schemas, schema, Bounds}
use Rattle.jskw_report.specs.Kind.{ErrorKind}
use Rattle.jskw_report.specs.Kind as kind

-- an error: its kind, the instance location (Core 12.3.3), the keyword location (Core 12.3.1), and the tree that stands
-- at the instance location
pub record Failure : Type 0 where
  pub kind : ErrorKind
  pub instance_location : Pointer
  pub keyword_location : Pointer
  pub tree : Tree

-- ---- `contains`

-- n is more than the upper bound, where there is one
abbrev pub passes : ℕ → Option ℕ → Bool
passes n None = false
passes n (Some u) = nat_lt u n

-- where `contains` fails if n items match: where too many do, else where too few do
abbrev pub failing_bound : Bounds → ℕ → List Pointer
failing_bound b n = if passes n b.upper then b.many ∷ [] else (if nat_le b.lower n then [] else b.few ∷ [])

-- the error of `contains` of the array t at p, if n of its items match
abbrev pub contains_fails : Bounds → ℕ → Tree → Pointer → List Failure
contains_fails b n t p =
    map (λ q. record { kind = kind.Contains; instance_location = p; keyword_location = q; tree = t })
    (failing_bound b n)

-- ---- keywords and schemas

-- the errors that f gives of each item in turn, the first being item i of the array at p
abbrev pub each_item : (Tree → Pointer → List Failure) → ℕ → List Tree → Pointer → List Failure
each_item f i [] p = []
each_item f i (t ∷ ts) p = f t (item_location p i) ++ each_item f (suc i) ts p

abbrev mutual
  -- the errors of the schema over the tree t at p: those of its keywords, or the one of `false`
  pub fail : Schema → Tree → Pointer → List Failure
  fail (false_schema q) t p =
      record { kind = kind.FalseSchema; instance_location = p; keyword_location = q; tree = t } ∷ []
  fail (schema_object q marks ks) t p = all_fail ks t p

  -- the errors of the keywords in turn
  pub all_fail : Keywords → Tree → Pointer → List Failure
  all_fail no_keywords t p = []
  all_fail (keyword q k ks) t p = keyword_fail k t p ++ all_fail ks t p

  -- the errors of the keyword: its own, or those of its subschemas over the items in turn
  pub keyword_fail : Keyword → Tree → Pointer → List Failure
  keyword_fail (assertion q a) t p =
      map (λ k. record { kind = k; instance_location = p; keyword_location = q; tree = t }) (error_kinds a t)
  keyword_fail (contains s b) t p = if is_array t then contains_fails b (count_by (holds s) (items t)) t p else []
  keyword_fail (each_of prefix ss) t p = each_fails ss 0 (items t) p
  keyword_fail (rest_of additional n s bare) t p = each_item (fail s) n (drop n (items t)) p

  -- the errors of each schema over the item of its index, as far as both go, the first being item i of the array at p
  pub each_fails : Schemas → ℕ → List Tree → Pointer → List Failure
  each_fails no_schemas i ts p = []
  each_fails (schema s ss) i [] p = []
  each_fails (schema s ss) i (t ∷ ts) p = fail s t (item_location p i) ++ each_fails ss (suc i) ts p

-- there is no error
abbrev pub is_empty : {A : Type 0} → List A → Bool
is_empty [] = true
is_empty (x ∷ xs) = false
