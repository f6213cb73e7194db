-- What the validators of `items` that apply no subschema stand for: bare type checks, and the keywords that the fused
-- shape of an array has beside `items`.
use Rattle.std.specs.Prelude.{◌≡◌, ℕ, List, ◌++◌, length, true, Option, Some, None, Result, Ok, Err, if◌then◌else◌}
use Rattle.jskw_value.specs.Pointer.{Pointer}
use Rattle.jskw_value.specs.Tree.{Tree, is_array, items}
use Rattle.jskw_value.specs.declared.types.JsonType.{JsonType}
use Rattle.jskw_value.specs.declared.types.JsonType.TheVariants as json_type
use Rattle.jskw_value.specs.declared.types.JsonType.TheVariants.{Array}
use Rattle.jskw_report.specs.Keyword.{Schema, schema_object, no_marks, Keyword, Keywords, no_keywords, keyword}
use Rattle.jskw_report.specs.Keyword.{append_keywords, items_from, Integers, as_written, by_value}
use Rattle.jskw_report.specs.Meaning.{LocatedAssertion, as_keyword}
use Rattle.jskw_number.specs.Meaning.{min_items, max_items}
use Rattle.jskw_leaf.specs.Meaning.{single_type}
use Rattle.jskw_leaf.specs.declared.in_place.absorbed.AbsorbedKeywords.{AbsorbedKeywords}
use Rattle.jskw_leaf.specs.declared.in_place.bare.BareItems.{BareItems}
use Rattle.jskw_leaf.specs.declared.in_place.bare.BareItems.TheVariants as bare
use Rattle.jskw_leaf.specs.declared.in_place.item_type.ItemsTypeValidator.{ItemsTypeValidator}

-- ---- bare type checks

-- the schema at q that has the assertion alone
abbrev pub bare_schema : Pointer → LocatedAssertion → Schema
bare_schema q a = schema_object q no_marks (keyword a.location (as_keyword a) no_keywords)

-- `items` at q of that schema, checked in place
abbrev pub bare_items : Pointer → LocatedAssertion → Keyword
bare_items q a = items_from 0 (bare_schema q a) true

-- T tests for the type j by the rule
abbrev pub items_type : {T F Node Number Key : Type 0} → JsonType → Integers → ItemsTypeValidator T F Node Number Key
    → Keyword
items_type j rule v = bare_items v.location (single_type j rule v.validator)

module _ {F Node Number Key : Type 0} where
  -- where `items` is
  abbrev pub bare_place : BareItems F Node Number Key → Pointer
  bare_place (bare.Number v) = v.location
  bare_place (bare.String v) = v.location
  bare_place (bare.Boolean v) = v.location
  bare_place (bare.Integer v) = v.location
  bare_place (bare.IntegerDraft4 v) = v.location

  -- what the schema of the items asserts
  abbrev pub bare_type : BareItems F Node Number Key → LocatedAssertion
  bare_type (bare.Number v) = single_type json_type.Number by_value v.validator
  bare_type (bare.String v) = single_type json_type.String by_value v.validator
  bare_type (bare.Boolean v) = single_type json_type.Boolean by_value v.validator
  bare_type (bare.Integer v) = single_type json_type.Integer by_value v.validator
  bare_type (bare.IntegerDraft4 v) = single_type json_type.Integer as_written v.validator

  -- the keyword that it stands for
  abbrev pub bare_keyword : BareItems F Node Number Key → Keyword
  bare_keyword v = bare_items (bare_place v) (bare_type v)

-- ---- the keywords beside `items`

-- the number of items of an array; nothing else has one
abbrev pub count_of : Tree → Option ℕ
count_of t = if is_array t then Some (length (items t)) else None

-- the list is the old one followed by all of these, or, if memory ran out, by a beginning of them
abbrev pub AppendsItems : {A E : Type 0} → List A → List A → List A → Result Unit E → Type 0
AppendsItems old new all (Ok u) = new ≡ old ++ all
AppendsItems {A} old new all (Err e) = (done : List A) × (rest : List A) × (new ≡ old ++ done) × (done ++ rest ≡ all)

-- the keyword of a validator that may not be there
abbrev pub optional : {V : Type 0} → (V → LocatedAssertion) → Option V → Keywords
optional asserts None = no_keywords
optional asserts (Some v) = keyword (asserts v).location (as_keyword (asserts v)) no_keywords

-- `type` of `array`
abbrev pub absorbed_type : AbsorbedKeywords → LocatedAssertion
absorbed_type a = single_type Array by_value a.type_

-- `minItems` and `maxItems`
abbrev pub absorbed_bounds : AbsorbedKeywords → Keywords
absorbed_bounds a = append_keywords (optional min_items a.min_items) (optional max_items a.max_items)

abbrev pub absorbed_keywords : AbsorbedKeywords → Keywords
absorbed_keywords a = keyword (absorbed_type a).location (as_keyword (absorbed_type a)) (absorbed_bounds a)
