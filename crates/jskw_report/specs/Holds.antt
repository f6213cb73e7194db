-- When an instance is valid against a schema (Core 7.6): the keywords with subschemas of Core 10.3.1, over the
-- assertions.
use Rattle.std.specs.Prelude.{ℕ, nat_le, List, [], ◌∷◌, drop, count_by, Bool, true, false, not, ◌&&◌, ◌||◌, Option}
use Rattle.std.specs.Prelude.{Some, None}
use Rattle.std.specs.List.{list_all}
use Rattle.jskw_value.specs.Tree.{Tree, items, is_array}
pub use Rattle.jskw_report.specs.Assertions.{is_integer_by, is_of, size_holds, stands_in, limit_holds, multiple_holds}
pub use Rattle.jskw_report.specs.Assertions.{is_option, required_holds, assertion_holds}
use Rattle.jskw_report.specs.Keyword.{Schema, false_schema, schema_object, Keywords, no_keywords, keyword, Keyword}
use Rattle.jskw_report.specs.Keyword.{assertion, contains, each_of, rest_of, Schemas, no_schemas, schema, Bounds}

-- n is no more than the upper bound, where there is one
abbrev pub within : ℕ → Option ℕ → Bool
within n None = true
within n (Some u) = nat_le n u

-- n items match, and the bounds of `contains` ask for no more and no fewer (Validation 6.4.4, 6.4.5)
abbrev pub count_holds : Bounds → ℕ → Bool
count_holds b n = nat_le b.lower n && within n b.upper

abbrev mutual
  -- the tree is valid against the schema: every keyword holds of it, and `false` never does (Core 4.3.1, 4.3.2)
  pub holds : Schema → Tree → Bool
  holds (false_schema q) t = false
  holds (schema_object q marks ks) t = all_hold ks t

  -- every keyword holds of the tree
  pub all_hold : Keywords → Tree → Bool
  all_hold no_keywords t = true
  all_hold (keyword q k ks) t = keyword_holds k t && all_hold ks t

  -- the keyword holds of the tree; what isn't an array has no items (Core 10.3.1.1 to 10.3.1.3)
  pub keyword_holds : Keyword → Tree → Bool
  keyword_holds (assertion q a) t = assertion_holds a t
  keyword_holds (contains s b) t = not (is_array t) || count_holds b (count_by (holds s) (items t))
  keyword_holds (each_of prefix ss) t = each_holds ss (items t)
  keyword_holds (rest_of additional n s bare) t = list_all (holds s) (drop n (items t))

  -- each item is valid against the schema of its index, as far as both go (Core 10.3.1.1)
  pub each_holds : Schemas → List Tree → Bool
  each_holds no_schemas ts = true
  each_holds (schema s ss) [] = true
  each_holds (schema s ss) (t ∷ ts) = holds s t && each_holds ss ts
