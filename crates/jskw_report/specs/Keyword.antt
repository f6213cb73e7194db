-- A schema as its keywords, one by one, in the order in which it is read (Core 4.3).
use Rattle.std.specs.Prelude.{ℕ, ℤ, List, Bool, true, false, ◌||◌, Option}
use Rattle.serde_json.specs.Data.{Data, Items}
use Rattle.jskw_value.specs.Pointer.{Pointer}
use Rattle.jskw_report.specs.Kind.{TypeKind}

-- which numbers are integers: those of a zero fraction (Validation 6.1.1), or those that are written without one
-- (Draft 4 Core 3.5)
pub data Integers : Type 0 where
  by_value as_written : Integers

-- the bounds on the number of items (Validation 6.4.1, 6.4.2) and of members (6.5.1, 6.5.2)
pub data Size : Type 0 where
  MinItems MaxItems MinProperties MaxProperties : Size

-- the limits on a number (Validation 6.2.2 to 6.2.5)
pub data Relation : Type 0 where
  Minimum Maximum ExclusiveMinimum ExclusiveMaximum : Relation

-- a keyword without subschemas (Core 7.6)
pub data Assertion : Type 0 where
  -- the schema `false`, taken as an assertion (Core 4.3.2)
  never : Assertion
  -- `type` (Validation 6.1.1)
  type_is : TypeKind → Integers → Assertion
  size : Size → ℕ → Assertion
  -- `const` (Validation 6.1.3)
  constant : Data → Assertion
  -- `enum` (Validation 6.1.2)
  among : Items → Assertion
  limit : Relation → ℤ → Assertion
  -- `multipleOf` (Validation 6.2.1)
  multiple_of : ℕ → Assertion
  -- `uniqueItems` (Validation 6.4.3)
  unique : Assertion
  -- `required`, each name once (Validation 6.5.3)
  required : List (List ℕ) → Assertion
  -- `additionalItems` of `false`, behind so many schemas of `items` (Draft 7 Validation 6.4.2)
  at_most : ℕ → Assertion

-- how many items are to match `contains`, and where it fails with too few and with too many (Validation 6.4.4, 6.4.5)
pub record Bounds : Type 0 where
  pub lower : ℕ
  pub upper : Option ℕ
  pub few : Pointer
  pub many : Pointer

-- what is marked of an object: its `required` is delegated to the keywords of objects; and its `type`, `minItems`,
-- `maxItems` and `items` are checked together. What the schema asserts is its keywords alone
pub record Marks : Type 0 where
  pub delegates : Bool
  pub fused : Bool

-- nothing is marked
abbrev pub no_marks : Marks
no_marks = record { delegates = false; fused = false }

mutual
  -- a boolean or an object (Core 4.3); a boolean in Draft 4 too, by this project's own rule
  pub data Schema : Type 0 where
    -- `false`, with its keyword location (Core 4.3.2)
    false_schema : Pointer → Schema
    -- an object, or `true`, which has no keywords: its keyword location, its marks and its keywords
    schema_object : Pointer → Marks → Keywords → Schema

  -- keywords, each with its keyword location
  pub data Keywords : Type 0 where
    no_keywords : Keywords
    keyword : Pointer → Keyword → Keywords → Keywords

  -- what one keyword asks for
  pub data Keyword : Type 0 where
    -- a keyword without subschemas, with the keyword location of its failures
    assertion : Pointer → Assertion → Keyword
    -- `contains` (Core 10.3.1.3)
    contains : Schema → Bounds → Keyword
    -- a schema for each of the first items: `prefixItems`, or, marked false, `items` of an array
    each_of : Bool → Schemas → Keyword
    -- one schema for the rest of the items, from an index on: `additionalItems`, or, marked false, `items`; the other
    -- mark is true where that is a bare type check, which is no application
    rest_of : Bool → ℕ → Schema → Bool → Keyword

  -- a list of schemas
  pub data Schemas : Type 0 where
    no_schemas : Schemas
    schema : Schema → Schemas → Schemas

-- `items` of an array of schemas (Draft 7 Validation 6.4.1); in 2020-12 too, by this project's own rule
abbrev pub items_list : Schemas → Keyword
items_list ss = each_of false ss

-- `prefixItems` (Core 10.3.1.1)
abbrev pub prefix_items : Schemas → Keyword
prefix_items ss = each_of true ss

-- `items` of one schema, from an index on (Core 10.3.1.2); true where that is a bare type check
abbrev pub items_from : ℕ → Schema → Bool → Keyword
items_from n s bare = rest_of false n s bare

-- `additionalItems` of a schema, from an index on (Draft 7 Validation 6.4.2)
abbrev pub additional_items : ℕ → Schema → Keyword
additional_items n s = rest_of true n s false

-- the schema's keyword location
abbrev pub schema_location : Schema → Pointer
schema_location (false_schema q) = q
schema_location (schema_object q marks ks) = q

-- the schema's `type`, `minItems`, `maxItems` and `items` are checked together
abbrev pub is_fused_schema : Schema → Bool
is_fused_schema (false_schema q) = false
is_fused_schema (schema_object q marks ks) = marks.fused

-- the keywords of an object; `false` has none
abbrev pub keywords_in : Schema → Keywords
keywords_in (false_schema q) = no_keywords
keywords_in (schema_object q marks ks) = ks

-- keywords, and others behind them
abbrev pub append_keywords : Keywords → Keywords → Keywords
append_keywords no_keywords ks = ks
append_keywords (keyword q k js) ks = keyword q k (append_keywords js ks)

abbrev mutual
  -- the `required` of the schema or of a subschema is delegated to the keywords of objects
  pub hands_on_required : Schema → Bool
  hands_on_required (false_schema q) = false
  hands_on_required (schema_object q marks ks) = marks.delegates || keywords_delegate ks

  -- the `required` of a subschema of some keyword is delegated
  pub keywords_delegate : Keywords → Bool
  keywords_delegate no_keywords = false
  keywords_delegate (keyword q k ks) = keyword_delegates k || keywords_delegate ks

  -- the `required` of a subschema of the keyword is delegated
  pub keyword_delegates : Keyword → Bool
  keyword_delegates (assertion q a) = false
  keyword_delegates (contains s b) = hands_on_required s
  keyword_delegates (each_of prefix ss) = schemas_delegate ss
  keyword_delegates (rest_of additional n s bare) = hands_on_required s

  -- the `required` of some schema of the list, or of a subschema of it, is delegated
  pub schemas_delegate : Schemas → Bool
  schemas_delegate no_schemas = false
  schemas_delegate (schema s ss) = hands_on_required s || schemas_delegate ss
