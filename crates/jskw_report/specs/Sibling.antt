-- What a keyword reads of the members beside it (Core 10.1): bare type checks, the fused shape of an array, and a
-- `required` that is delegated.
use Rattle.std.specs.Prelude.{ℕ, ◌==◌, nat_lt, List, [], ◌∷◌, Bool, true, false, not, ◌&&◌, ◌||◌, codes, bytes_eq}
use Rattle.std.specs.Prelude.{is_none, is_ok}
use Rattle.std.specs.List.{list_any, list_all}
use Rattle.std.specs.Option.{option_map_or}
use Rattle.serde_json.specs.Data.{Data, boolean, string, array, object, Members, no_members, member}
use Rattle.serde_json.specs.Events.{items_len, members_len}
use Rattle.serde_json.specs.Find.{get_member}
use Rattle.jskw_value.specs.Types.{type_name}
use Rattle.jskw_value.specs.declared.types.JsonType.TheVariants.{Array, Boolean, Integer, Number, String}
use Rattle.jskw_report.specs.declared.settings.Vocabulary.TheVariants.{Applicator}
use Rattle.jskw_report.specs.KeywordValue.{size_value}
use Rattle.jskw_report.specs.Setting.{Setting, has_vocabulary, is_overridden, is_active, name_of, is_2020_12}
use Rattle.jskw_report.specs.declared.keyword.KeywordName.{KeywordName}
use Rattle.jskw_report.specs.declared.keyword.KeywordName.TheVariants as keyword_name

-- ---- values

-- the value is `true`
abbrev pub is_true : Data → Bool
is_true (boolean b) = b
is_true _ = false

-- the value is `false`
abbrev pub is_false : Data → Bool
is_false (boolean b) = not b
is_false _ = false

-- the value is an array
abbrev pub is_array_value : Data → Bool
is_array_value (array ds) = true
is_array_value _ = false

-- the value is an object
abbrev pub is_object_value : Data → Bool
is_object_value (object ms) = true
is_object_value _ = false

-- the number of items of an array; nothing else has any
abbrev pub item_count : Data → ℕ
item_count (array ds) = items_len ds
item_count _ = 0

-- the value is the string
abbrev pub is_string : List ℕ → Data → Bool
is_string s (string r) = bytes_eq s r
is_string s _ = false

-- ---- members

-- no member has the name
abbrev pub is_absent : List ℕ → Members → Bool
is_absent name ms = is_none (get_member name ms)

-- a member has the name, and its value passes the test
abbrev pub member_passes : (Data → Bool) → List ℕ → Members → Bool
member_passes test name ms = option_map_or test (get_member name ms) false

-- ---- bare type checks

-- a type's name that items are checked against in place
abbrev pub is_inlined_type : Data → Bool
is_inlined_type d = list_any (λ j. is_string (type_name j) d) (Number ∷ String ∷ Boolean ∷ Integer ∷ [])

-- an object of a single member: `type`, with a name that items are checked against in place
abbrev pub is_only_type : Data → Bool
is_only_type (object (member k d no_members)) = bytes_eq k (name_of keyword_name.TypeKeyword) && is_inlined_type d
is_only_type _ = false

-- the schema d of `items` is checked in place: it is a `type` alone, which is active, and no array of schemas of
-- `prefixItems` comes before it
abbrev pub is_bare : Setting → Members → Data → Bool
is_bare s ms d =
    is_only_type d && is_active s keyword_name.TypeKeyword
    && not (is_2020_12 s.draft && member_passes is_array_value (name_of keyword_name.PrefixItems) ms)

-- ---- the fused shape

-- the value is a schema of `items` that asserts something: an object or `false`
abbrev pub is_items_schema : Data → Bool
is_items_schema (object ms) = true
is_items_schema d = is_false d

-- the value is a bound on a number of items
abbrev pub is_size : Data → Bool
is_size d = is_ok (size_value [] d)

-- the keyword is there and active, and its value passes the test
abbrev pub has_keyword : Setting → Members → KeywordName → (Data → Bool) → Bool
has_keyword s ms w test = member_passes test (name_of w) ms && is_active s w

-- the keyword is absent, or active and a bound on a number of items
abbrev pub takes_size : Setting → Members → KeywordName → Bool
takes_size s ms w = is_absent (name_of w) ms || has_keyword s ms w is_size

-- the other keywords of items, none of which may be there in any draft
abbrev pub unfused_names : List (List ℕ)
unfused_names =
    name_of keyword_name.PrefixItems ∷ name_of keyword_name.AdditionalItems ∷ name_of keyword_name.Contains
    ∷ codes "unevaluatedItems" ∷ name_of keyword_name.UniqueItems ∷ []

-- `type`, `minItems`, `maxItems` and `items` are checked together: `type` is `array`, `items` is one schema, and there
-- is no other keyword of items
unfoldable pub is_fused : Setting → Members → Bool
is_fused s ms =
    has_keyword s ms keyword_name.TypeKeyword (is_string (type_name Array))
    && has_keyword s ms keyword_name.Items is_items_schema
    && takes_size s ms keyword_name.MinItems && takes_size s ms keyword_name.MaxItems
    && list_all (λ name. is_absent name ms) unfused_names

-- ---- what is delegated

-- an array of so many items
abbrev pub has_items : ℕ → Data → Bool
has_items n d = is_array_value d && (item_count d == n)

-- an object of fewer than 15 members
abbrev pub has_few_members : Data → Bool
has_few_members (object ms) = nat_lt (members_len ms) 15
has_few_members _ = false

-- one name is required beside `properties`, and `additionalProperties` is `false`
abbrev pub requires_one_of_properties : Setting → Members → Bool
requires_one_of_properties s ms =
    member_passes (has_items 1) (name_of keyword_name.Required) ms && not (is_absent (codes "properties") ms)
    && member_passes is_false (codes "additionalProperties") ms && not (is_overridden s (codes "additionalProperties"))

-- two names are required beside a few `properties`, and `additionalProperties` isn't `false` and no object
abbrev pub requires_two_of_properties : Setting → Members → Bool
requires_two_of_properties s ms = member_passes (has_items 2) (name_of keyword_name.Required) ms
    && member_passes has_few_members (codes "properties") ms && not (is_overridden s (codes "properties"))
    && not (member_passes is_false (codes "additionalProperties") ms)
    && not (member_passes is_object_value (codes "additionalProperties") ms)

-- `required` is left to the keywords of objects beside it, which an object layer asserts: here it asserts nothing, and
-- its items aren't judged
unfoldable pub is_handed_on : Setting → Members → Bool
is_handed_on s ms = is_active s keyword_name.Required && s.object_layer && has_vocabulary s Applicator
    && is_absent (codes "patternProperties") ms
    && (requires_one_of_properties s ms || requires_two_of_properties s ms)
