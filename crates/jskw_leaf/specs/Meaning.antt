-- What each validator asserts, and where.
use Rattle.std.specs.Prelude.{ℕ, List}
use Rattle.serde_json.specs.View.{view}
use Rattle.serde_json.specs.declared.value.Value.{Value}
use Rattle.jskw_value.specs.Pointer.{Pointer}
use Rattle.jskw_value.specs.declared.types.JsonType.{JsonType}
use Rattle.jskw_report.specs.declared.error.TypeKind.{TypeKind}
use Rattle.jskw_report.specs.declared.error.TypeKind.TheVariants.{Single}
use Rattle.jskw_report.specs.Keyword.{Keyword, constant, among, unique, never, type_is, Integers, by_value, as_written}
use Rattle.jskw_report.specs.Keyword.{at_most, required}
use Rattle.jskw_report.specs.Meaning.{LocatedAssertion, as_keyword}
use Rattle.jskw_number.specs.Meaning.{number_assertion}
use Rattle.jskw_leaf.specs.declared.in_place.no_more.AdditionalItemsBooleanValidator.{AdditionalItemsBooleanValidator}
use Rattle.jskw_leaf.specs.declared.boolean.FalseValidator.{FalseValidator}
use Rattle.jskw_leaf.specs.declared.type_.IntegerRule.{IntegerRule}
use Rattle.jskw_leaf.specs.declared.type_.IntegerRule.TheVariants.{ByValue, AsWritten}
use Rattle.jskw_leaf.specs.declared.type_.single.SingleTypeValidator.{SingleTypeValidator}
use Rattle.jskw_leaf.specs.declared.type_.TypeValidator.{TypeValidator}
use Rattle.jskw_leaf.specs.declared.const_.ConstValueValidator.{ConstValueValidator}
use Rattle.jskw_leaf.specs.declared.enum_.EnumValidator.{EnumValidator}
use Rattle.jskw_leaf.specs.declared.enum_.SingleValueEnumValidator.{SingleValueEnumValidator}
use Rattle.jskw_leaf.specs.declared.enum_.table.TableEnumValidator.{TableEnumValidator}
use Rattle.jskw_leaf.specs.declared.unique_items.UniqueItemsValidator.{UniqueItemsValidator}
use Rattle.jskw_leaf.specs.Options.{options_of}
use Rattle.jskw_leaf.specs.declared.leaf.LeafValidator.{LeafValidator}
use Rattle.jskw_leaf.specs.declared.leaf.LeafValidator.TheVariants.{False, Number as number, Types, Const, Enum}
use Rattle.jskw_leaf.specs.declared.leaf.LeafValidator.TheVariants.{BigEnum, SingleValueEnum, SmallStringEnum}
use Rattle.jskw_leaf.specs.declared.leaf.LeafValidator.TheVariants.{NullableSmallStringEnum, BigStringEnum}
use Rattle.jskw_leaf.specs.declared.leaf.LeafValidator.TheVariants.{NullableBigStringEnum, IntegerEnum}
use Rattle.jskw_leaf.specs.declared.leaf.LeafValidator.TheVariants.{NullableIntegerEnum, UniqueItems, Required}
use Rattle.jskw_leaf.specs.declared.leaf.LeafValidator.TheVariants.{AdditionalItems, RequiredFew}
use Rattle.jskw_leaf.specs.declared.required.RequiredNames.{RequiredNames}

abbrev pub false_at : Pointer → LocatedAssertion
false_at q = record { location = q; assertion = never }

abbrev pub false_schema : FalseValidator → LocatedAssertion
false_schema v = false_at v.location

-- ---- `type`

-- which numbers are integers
abbrev pub rule_of : IntegerRule → Integers
rule_of ByValue = by_value
rule_of AsWritten = as_written

-- the types of k, failing at the location
abbrev pub types_at : TypeKind → Integers → Pointer → LocatedAssertion
types_at k rule q = record { location = q; assertion = type_is k rule }

abbrev pub named_types : TypeValidator → LocatedAssertion
named_types v = types_at v.kind (rule_of v.rule) v.location

-- the type j, failing at the location
abbrev pub type_at : JsonType → Integers → Pointer → LocatedAssertion
type_at j rule q = types_at (Single j) rule q

-- T tests for the type j by the rule
abbrev pub single_type : {T : Type 0} → JsonType → Integers → SingleTypeValidator T → LocatedAssertion
single_type j rule v = type_at j rule v.location

-- ---- `const`

abbrev pub const_assertion : ConstValueValidator → LocatedAssertion
const_assertion v = record { location = v.location; assertion = constant (view v.value) }

-- ---- `enum`

-- the options that a value lists, failing at the location
abbrev pub among_at : Pointer → Value → LocatedAssertion
among_at q v = record { location = q; assertion = among (options_of (view v)) }

abbrev pub enum_any : EnumValidator → LocatedAssertion
enum_any v = among_at v.location v.options

abbrev pub enum_single : SingleValueEnumValidator → LocatedAssertion
enum_single v = among_at v.location v.options

-- T is the table of them, and N says whether null is among them
abbrev pub enum_table : {T N : Type 0} → TableEnumValidator T N → LocatedAssertion
enum_table v = among_at v.location v.listed

-- ---- `uniqueItems`

abbrev pub unique_items : UniqueItemsValidator → LocatedAssertion
unique_items v = record { location = v.location; assertion = unique }

-- ---- `required`

-- the names, failing at the location
abbrev pub required_at : Pointer → List (List ℕ) → LocatedAssertion
required_at q names = record { location = q; assertion = required names }

-- L holds names
abbrev pub required_names : {F Node Number Key L : Type 0} → (L → List (List ℕ)) → RequiredNames F L Node Number Key
    → LocatedAssertion
required_names names v = required_at v.location (names v.names)

-- ---- `additionalItems` of `false`

-- no more items than that, failing at the location
abbrev pub at_most_at : Pointer → ℕ → LocatedAssertion
at_most_at q n = record { location = q; assertion = at_most n }

abbrev pub no_additional_items : AdditionalItemsBooleanValidator → LocatedAssertion
no_additional_items v = at_most_at v.location v.items_count

-- ---- any of them

abbrev pub leaf_assertion : {F Node Number Key : Type 0} → LeafValidator F Node Number Key → LocatedAssertion
leaf_assertion (False v) = false_schema v
leaf_assertion (number v) = number_assertion v
leaf_assertion (Types v) = named_types v
leaf_assertion (Const v) = const_assertion v
leaf_assertion (Enum v) = enum_any v
leaf_assertion (BigEnum v) = enum_table v
leaf_assertion (SingleValueEnum v) = enum_single v
leaf_assertion (SmallStringEnum v) = enum_table v
leaf_assertion (NullableSmallStringEnum v) = enum_table v
leaf_assertion (BigStringEnum v) = enum_table v
leaf_assertion (NullableBigStringEnum v) = enum_table v
leaf_assertion (IntegerEnum v) = enum_table v
leaf_assertion (NullableIntegerEnum v) = enum_table v
leaf_assertion (UniqueItems v) = unique_items v
leaf_assertion (Required v) = required_names (λ names. names) v
leaf_assertion (RequiredFew v) = required_names (λ names. names) v
leaf_assertion (AdditionalItems v) = no_additional_items v

-- the keyword that it stands for
abbrev pub leaf_keyword : {F Node Number Key : Type 0} → LeafValidator F Node Number Key → Keyword
leaf_keyword v = as_keyword (leaf_assertion v)
