-- What a schema says, read from its `serde_json` value: its keywords one by one, or the first refusal.
use Rattle.std.specs.Prelude.{ℕ, suc, List, [], ◌∷◌, true, false, not, ◌&&◌, codes, Option, Some, None, Result, Ok}
use Rattle.std.specs.Prelude.{if◌then◌else◌}
use Rattle.std.specs.Cmp.Lexicographic.{slice_cmp}
use Rattle.std.specs.Option.{option_map_or}
use Rattle.std.specs.Ordering.{nat_cmp, match_ordering}
use Rattle.serde_json.specs.Data.{Data, boolean, array, object, Items, no_items, item, Members, no_members, member}
use Rattle.serde_json.specs.Events.{items_len}
use Rattle.serde_json.specs.Find.{get_member}
use Rattle.jskw_value.specs.Pointer.{Pointer, member_location, item_location}
use Rattle.jskw_value.specs.Types as types
use Rattle.jskw_value.specs.declared.types.JsonType.TheVariants.{Array, Boolean, Integer, Object}
use Rattle.jskw_report.specs.declared.settings.Draft.{Draft}
use Rattle.jskw_report.specs.declared.settings.Vocabulary.TheVariants.{Validation}
use Rattle.jskw_report.specs.KeywordValue.{Refusal, wrong, map_ok, join_ok, of_type, of_types, size_value, limit_value}
use Rattle.jskw_report.specs.KeywordValue.{divisor_value, type_value, required_value, const_value, enum_value}
use Rattle.jskw_report.specs.Keyword.{Marks, no_marks, Schema, false_schema, schema_object, Keywords, no_keywords}
use Rattle.jskw_report.specs.Keyword.{keyword, Keyword, Assertion, assertion, contains, items_list, prefix_items}
use Rattle.jskw_report.specs.Keyword.{items_from, additional_items, Schemas, no_schemas, schema, Integers, by_value}
use Rattle.jskw_report.specs.Keyword.{as_written, type_is, size, constant, among, limit, multiple_of, unique, required}
use Rattle.jskw_report.specs.Keyword.{at_most, Bounds, Size, MinItems, MaxItems, MinProperties, MaxProperties, Relation}
use Rattle.jskw_report.specs.Keyword.{Minimum, Maximum, ExclusiveMinimum, ExclusiveMaximum}
use Rattle.jskw_report.specs.Kind.{TypeKind, types_of}
use Rattle.jskw_report.specs.Setting.{Setting, has_vocabulary, is_active, keywords, name_of, is_after_draft_4}
use Rattle.jskw_report.specs.Setting.{is_after_draft_7, is_2020_12}
use Rattle.jskw_report.specs.declared.keyword.KeywordName.{KeywordName}
use Rattle.jskw_report.specs.declared.keyword.KeywordName.TheVariants as keyword_name
use Rattle.jskw_report.specs.Sibling.{is_true, item_count, member_passes, is_bare, is_fused, is_handed_on}

-- a schema, or its first refusal
abbrev pub Reading : Type 0
Reading = Result Schema Refusal

-- nothing, where the keyword asserts nothing; else the keyword, or its first refusal
abbrev pub Asserts : Type 0
Asserts = Option (Result Keyword Refusal)

-- a keyword's value: as it stands, as a schema, and as an array of schemas
pub record ValueReadings : Type 0 where
  pub value : Data
  pub schema : Setting → Pointer → Reading
  pub schemas : Setting → Pointer → Result Schemas Refusal

-- the keyword of the value, or the value's refusal
abbrev pub asserts : {A : Type 0} → (A → Keyword) → Result A Refusal → Asserts
asserts f r = Some (map_ok f r)

-- the keyword location of the keyword w of the schema at p (Core 12.3.1)
abbrev pub keyword_location : Pointer → KeywordName → Pointer
keyword_location p w = member_location p (name_of w)

-- ---- keywords without subschemas, each at its keyword location q

-- how `type` tells integers: by their value, but in Draft 4 as they are written (Draft 4 Core 3.5); it makes no
-- difference where `integer` isn't named
abbrev pub integers_of : Draft → TypeKind → Integers
integers_of draft k =
    if not (is_after_draft_4 draft) && types.contains (types_of k) Integer then as_written else by_value

-- what a keyword without subschemas asserts of its value, which is judged at the keyword location q
abbrev pub Rule : Type 0
Rule = Pointer → Data → Result Assertion Refusal

-- `type` (Validation 6.1.1), by a rule on integers
abbrev pub type_rule : (TypeKind → Integers) → Rule
type_rule integers q d = map_ok (λ k. type_is k (integers k)) (type_value q d)

-- a bound on a size (Validation 6.4.1, 6.4.2, 6.5.1, 6.5.2)
abbrev pub size_rule : Size → Rule
size_rule which q d = map_ok (size which) (size_value q d)

-- `uniqueItems` (Validation 6.4.3)
abbrev pub unique_rule : Rule
unique_rule q d = Ok unique

-- `const` (Validation 6.1.3)
abbrev pub const_rule : Rule
const_rule q d = map_ok constant (const_value q d)

-- `enum` (Validation 6.1.2)
abbrev pub enum_rule : Rule
enum_rule q d = map_ok among (enum_value q d)

-- a limit on numbers (Validation 6.2.2 to 6.2.5)
abbrev pub limit_rule : Relation → Rule
limit_rule r q d = map_ok (limit r) (limit_value q d)

-- `multipleOf` (Validation 6.2.1)
abbrev pub divisor_rule : Rule
divisor_rule q d = map_ok multiple_of (divisor_value q d)

-- `required` (Validation 6.5.3), whatever stands beside it
abbrev pub required_rule : Rule
required_rule q d = map_ok required (required_value q d)

-- the keyword of the rule, which fails at q
abbrev pub keyword_by : Rule → Pointer → Data → Result Keyword Refusal
keyword_by rule q d = map_ok (assertion q) (rule q d)

-- ---- limits of a schema

-- the keyword of a limit
abbrev pub limit_keyword_name : Relation → KeywordName
limit_keyword_name Minimum = keyword_name.Minimum
limit_keyword_name Maximum = keyword_name.Maximum
limit_keyword_name ExclusiveMinimum = keyword_name.ExclusiveMinimum
limit_keyword_name ExclusiveMaximum = keyword_name.ExclusiveMaximum

-- the relation that a number equal to the limit does not satisfy
abbrev pub exclusive : Relation → Relation
exclusive Minimum = ExclusiveMinimum
exclusive Maximum = ExclusiveMaximum
exclusive r = r

-- in Draft 4 `minimum` and `maximum` are exclusive beside an `exclusiveMinimum` or `exclusiveMaximum` of `true` (Draft
-- 4 Validation 5.1.2, 5.1.3)
abbrev pub relation_beside : Setting → Members → Relation → Relation
relation_beside s ms r =
    if not (is_after_draft_4 s.draft) && member_passes is_true (name_of (limit_keyword_name (exclusive r))) ms
    then exclusive r else r

-- a limit of the schema at p, which is judged and fails at the keyword of its relation
abbrev pub limit_keyword : Relation → Pointer → Data → Result Keyword Refusal
limit_keyword r p d = keyword_by (limit_rule r) (keyword_location p (limit_keyword_name r)) d

-- ---- `contains` (Core 10.3.1.3) with `maxContains` and `minContains` (Validation 6.4.4, 6.4.5)

-- the name of the lower bound of `contains`
abbrev pub min_contains : List ℕ
min_contains = codes "minContains"

-- the name of the upper bound of `contains`
abbrev pub max_contains : List ℕ
max_contains = codes "maxContains"

-- the value of a bound that is read: from 2019-09 on, with the validation vocabulary
abbrev pub bound_beside : Setting → Members → List ℕ → Option Data
bound_beside s ms name = if is_after_draft_7 s.draft && has_vocabulary s Validation then get_member name ms else None

-- the bound, where it is there
abbrev pub bound_value : Pointer → Option Data → Result (Option ℕ) Refusal
bound_value q None = Ok None
bound_value q (Some d) = map_ok Some (size_value q d)

-- of the schema at p, by the bounds that were read: without `minContains` one item is to match; it fails at a bound,
-- where there is one
abbrev pub bounds_between : Pointer → Option ℕ → Option ℕ → Bounds
bounds_between p None None = let q = keyword_location p keyword_name.Contains in
    record { lower = 1; upper = None; few = q; many = q }
bounds_between p (Some l) None = let q = member_location p min_contains in
    record { lower = l; upper = None; few = q; many = q }
bounds_between p None (Some u) = let q = member_location p max_contains in
    record { lower = 1; upper = Some u; few = q; many = q }
bounds_between p (Some l) (Some u) =
    record { lower = l; upper = Some u; few = member_location p min_contains; many = member_location p max_contains }

-- `minContains` is judged before `maxContains`
abbrev pub read_bounds : Setting → Pointer → Members → Result Bounds Refusal
read_bounds s p ms =
    join_ok (bounds_between p) (bound_value (member_location p min_contains) (bound_beside s ms min_contains))
    (bound_value (member_location p max_contains) (bound_beside s ms max_contains))

-- the bounds are judged before the schema
abbrev pub contains_keyword : Setting → Pointer → Members → ValueReadings → Asserts
contains_keyword s p ms readings =
    Some (join_ok (λ b sub. contains sub b) (read_bounds s p ms)
    (readings.schema s (keyword_location p keyword_name.Contains)))

-- ---- `items`, `prefixItems` and `additionalItems`

-- where `items` of one schema begins: in 2020-12 behind the schemas of `prefixItems` (Core 10.3.1.2), else at the
-- first item
abbrev pub items_start : Setting → Members → ℕ
items_start s ms =
    if is_2020_12 s.draft then option_map_or item_count (get_member (name_of keyword_name.PrefixItems) ms) 0 else 0

-- `items` of one schema (Core 10.3.1.2)
abbrev pub each_item_keyword : Setting → Pointer → Members → ValueReadings → Asserts
each_item_keyword s q ms readings =
    asserts (λ sub. items_from (items_start s ms) sub (is_bare s ms readings.value)) (readings.schema s q)

-- `items` is an array of schemas (Draft 7 Validation 6.4.1) or one schema; `true` and what is no schema assert nothing
abbrev pub items_keyword : Setting → Pointer → Members → ValueReadings → Data → Asserts
items_keyword s q ms readings (array ds) = asserts items_list (readings.schemas s q)
items_keyword s q ms readings (object ns) = each_item_keyword s q ms readings
items_keyword s q ms readings (boolean false) = each_item_keyword s q ms readings
items_keyword s q ms readings _ = None

-- `prefixItems` is an array of schemas (Core 10.3.1.1)
abbrev pub prefix_keyword : Setting → Pointer → ValueReadings → Data → Asserts
prefix_keyword s q readings (array ds) = asserts prefix_items (readings.schemas s q)
prefix_keyword s q readings d = Some (wrong (of_type Array) q d)

-- `additionalItems` speaks of the items behind the schemas of `items`; beside an `items` that is no array it asserts
-- nothing (Draft 7 Validation 6.4.2)
abbrev pub additional_keyword : Setting → Pointer → Option Data → ValueReadings → Data → Asserts
additional_keyword s q (Some (array ds)) readings (boolean true) = None
additional_keyword s q (Some (array ds)) readings (boolean false) = Some (Ok (assertion q (at_most (items_len ds))))
additional_keyword s q (Some (array ds)) readings d = asserts (additional_items (items_len ds)) (readings.schema s q)
additional_keyword s q _ readings d = None

-- ---- a keyword

-- the rule of a keyword without subschemas, beside the members ms; none where it asserts nothing of its value d, nor
-- for a keyword with subschemas
abbrev pub rule_for : KeywordName → Setting → Members → Data → Option Rule
rule_for keyword_name.TypeKeyword s ms d = Some (type_rule (integers_of s.draft))
rule_for keyword_name.MinItems s ms d = Some (size_rule MinItems)
rule_for keyword_name.MaxItems s ms d = Some (size_rule MaxItems)
rule_for keyword_name.UniqueItems s ms d = if is_true d then Some unique_rule else None
rule_for keyword_name.Const s ms d = Some const_rule
rule_for keyword_name.Enum s ms d = Some enum_rule
rule_for keyword_name.Minimum s ms d = Some (limit_rule (relation_beside s ms Minimum))
rule_for keyword_name.Maximum s ms d = Some (limit_rule (relation_beside s ms Maximum))
rule_for keyword_name.ExclusiveMinimum s ms d = Some (limit_rule ExclusiveMinimum)
rule_for keyword_name.ExclusiveMaximum s ms d = Some (limit_rule ExclusiveMaximum)
rule_for keyword_name.MultipleOf s ms d = Some divisor_rule
rule_for keyword_name.MinProperties s ms d = Some (size_rule MinProperties)
rule_for keyword_name.MaxProperties s ms d = Some (size_rule MaxProperties)
rule_for keyword_name.Required s ms d = if is_handed_on s ms then None else Some required_rule
rule_for _ s ms d = None

-- what the rule asserts, if there is one
abbrev pub asserted_by : Option Rule → Pointer → Data → Asserts
asserted_by None q d = None
asserted_by (Some rule) q d = Some (keyword_by rule q d)

-- the keyword at which a keyword without subschemas fails: itself, or in Draft 4 the one that makes a limit exclusive
abbrev pub failing_keyword : KeywordName → Setting → Members → KeywordName
failing_keyword keyword_name.Minimum s ms = limit_keyword_name (relation_beside s ms Minimum)
failing_keyword keyword_name.Maximum s ms = limit_keyword_name (relation_beside s ms Maximum)
failing_keyword w s ms = w

-- what the keyword w asserts under the setting s: p is the location of the schema, ms are its members, and `readings`
-- is the keyword's value
unfoldable pub asserted : KeywordName → Setting → Pointer → Members → ValueReadings → Asserts
asserted keyword_name.Items s p ms readings =
    items_keyword s (keyword_location p keyword_name.Items) ms readings readings.value
asserted keyword_name.PrefixItems s p ms readings =
    prefix_keyword s (keyword_location p keyword_name.PrefixItems) readings readings.value
asserted keyword_name.AdditionalItems s p ms readings =
    additional_keyword s (keyword_location p keyword_name.AdditionalItems) (get_member (name_of keyword_name.Items) ms)
    readings readings.value
asserted keyword_name.Contains s p ms readings = contains_keyword s p ms readings
asserted w s p ms readings =
    asserted_by (rule_for w s ms readings.value) (keyword_location p (failing_keyword w s ms)) readings.value

-- what the keyword w asserts, of a value that may be absent; it asserts nothing then, nor where it is not active
unfoldable pub read_keyword : KeywordName → Setting → Pointer → Members → Option ValueReadings → Asserts
read_keyword w s p ms None = None
read_keyword w s p ms (Some readings) = if is_active s w then asserted w s p ms readings else None

-- ---- a schema (Core 4.3)

-- a keyword at q before others: the first refusal comes first
abbrev pub before : Pointer → Asserts → Result Keywords Refusal → Result Keywords Refusal
before q None rest = rest
before q (Some r) rest = join_ok (keyword q) r rest

-- the keywords of the list, in its order
abbrev pub read_keywords : List KeywordName → Setting → Pointer → Members → (List ℕ → Option ValueReadings)
    → Result Keywords Refusal
read_keywords [] s p ms parts = Ok no_keywords
read_keywords (w ∷ ws) s p ms parts =
    before (keyword_location p w) (read_keyword w s p ms (parts (name_of w))) (read_keywords ws s p ms parts)

-- what is marked of the schema of these members
abbrev pub marks_of : Setting → Members → Marks
marks_of s ms = record { delegates = is_handed_on s ms; fused = is_fused s ms }

-- the schema at p of these keywords
abbrev pub object_schema : Pointer → Marks → Result Keywords Refusal → Reading
object_schema p marks r = map_ok (schema_object p marks) r

abbrev mutual
  -- the schema d at p, a boolean (Core 4.3.2) or an object (Core 4.3.1)
  pub read : Data → Setting → Pointer → Reading
  read (boolean true) s p = Ok (schema_object p no_marks no_keywords)
  read (boolean false) s p = Ok (false_schema p)
  read (object ms) s p =
      object_schema p (marks_of s ms) (read_keywords keywords s p ms (λ name. readings_named name ms))
  read d s p = wrong (of_types Boolean Object) p d

  -- the items of the array d at p, each as a schema
  pub read_items : Data → Setting → Pointer → Result Schemas Refusal
  read_items (array ds) s p = read_each ds s p 0
  read_items d s p = Ok no_schemas

  -- those from index i on
  pub read_each : Items → Setting → Pointer → ℕ → Result Schemas Refusal
  read_each no_items s p i = Ok no_schemas
  read_each (item d ds) s p i = join_ok schema (read d s (item_location p i)) (read_each ds s p (suc i))

  -- the readings of the value of the member of that name
  pub readings_named : List ℕ → Members → Option ValueReadings
  readings_named name no_members = None
  readings_named name (member k d ms) =
      match_ordering (slice_cmp nat_cmp name k) (readings_named name ms)
      (Some (record { value = d; schema = λ s p. read d s p; schemas = λ s p. read_items d s p }))
      (readings_named name ms)

-- the readings of a value
abbrev pub readings : Data → ValueReadings
readings d = record { value = d; schema = read d; schemas = read_items d }
