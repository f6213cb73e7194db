-- Worked rows: what a schema says of an instance.
-- A row is what is asked and what is wanted, below its words and JSON. It is of Draft 2020-12 if nothing else is said.
-- A list has the rows of one type, of which a comparison unfolds the same names.
use Rattle.std.specs.Prelude.{List, [], ◌∷◌, pos, negsuc, codes}
use Rattle.std.specs.Fmt.{digits}
use Rattle.std.proofs.Common.{refl}
use Rattle.serde_json.specs.Data.{null}
use Rattle.jskw_value.specs.declared.types.JsonType.TheVariants.{Array, Integer, String}
use Rattle.jskw_report.specs.declared.settings.Draft.TheVariants.{Draft4, Draft6, Draft7, Draft201909}
use Rattle.jskw_report.specs.declared.error.TypeKind.TheVariants.{Single}
use Rattle.jskw_report.specs.Kind.{AdditionalItems, Constant, Contains, Enum, Listed, ExclusiveMaximum}
use Rattle.jskw_report.specs.Kind.{ExclusiveMinimum, FalseSchema, MaxItems, Maximum, MaxProperties, MinItems, Minimum}
use Rattle.jskw_report.specs.Kind.{MinProperties, MultipleOf, Required, WrongType, UniqueItems}
use Rattle.jskw_report.specs.Read.{asserted, read_keyword}
use Rattle.jskw_report.specs.Sibling.{is_handed_on}
use Rattle.jskw_worked.proofs.Worked.{Row, row, Right, Answer, num, minus, str, yes, no, arr, is, obj, decimal_tree}
use Rattle.jskw_worked.proofs.Worked.{under, latest, with, applicator_only, validation_only, without, error, valid}
use Rattle.jskw_worked.proofs.Worked.{errors, on, on_tree}

-- ---- schemas and `type`

abbrev schemas_answers : List (Row Answer)
schemas_answers =
    -- false holds of nothing: false on null
    row (on latest no null)
    (errors (error FalseSchema "" "" ∷ [])) ∷
    -- integers of Draft 4 are as written: {"type":"integer"} on 1.0, in Draft 4
    row (on_tree (under Draft4) (obj (is "type" (str "integer") ∷ [])) (decimal_tree (pos 10) 1))
    (errors (error (WrongType (Single Integer)) "" "/type" ∷ [])) ∷
    -- integers of Draft 7 are by value: {"type":"integer"} on 1.0, in Draft 7
    row (on_tree (under Draft7) (obj (is "type" (str "integer") ∷ [])) (decimal_tree (pos 10) 1))
    valid ∷
    []

right_schemas_answers : Right schemas_answers
unfolding asserted read_keyword
right_schemas_answers = refl

-- ---- `minItems`, `maxItems`, `items`

abbrev items_answers : List (Row Answer)
items_answers =
    -- errors come in the order of keywords: {"type":"array","minItems":3,"maxItems":1,"items":false} on [1,2]
    row (on latest (obj (is "type" (str "array") ∷ is "minItems" (num 3) ∷ is "maxItems" (num 1) ∷ is "items" no ∷ []))
    (arr (num 1 ∷ num 2 ∷ [])))
    (errors (error (MinItems 3) "" "/minItems" ∷ error (MaxItems 1) "" "/maxItems" ∷ error FalseSchema "/0" "/items"
    ∷ error FalseSchema "/1" "/items" ∷ [])) ∷
    -- array keywords hold of a number: {"type":"array","minItems":3,"maxItems":1,"items":false} on 5
    row (on latest (obj (is "type" (str "array") ∷ is "minItems" (num 3) ∷ is "maxItems" (num 1) ∷ is "items" no ∷ []))
    (num 5))
    (errors (error (WrongType (Single Array)) "" "/type" ∷ [])) ∷
    -- items of an array go by index: {"items":[false]} on [1]
    row (on latest (obj (is "items" (arr (no ∷ [])) ∷ [])) (arr (num 1 ∷ [])))
    (errors (error FalseSchema "/0" "/items/0" ∷ [])) ∷
    -- items of 2019-09 begin at the first: {"prefixItems":[true],"items":false} on [1], in 2019-09
    row (on (under Draft201909) (obj (is "prefixItems" (arr (yes ∷ [])) ∷ is "items" no ∷ [])) (arr (num 1 ∷ [])))
    (errors (error FalseSchema "/0" "/items" ∷ [])) ∷
    -- errors of items stand at their locations: {"items":{"items":{"const":1}}} on [[1,2],[3]]
    row (on latest (obj (is "items" (obj (is "items" (obj (is "const" (num 1) ∷ [])) ∷ [])) ∷ []))
    (arr (arr (num 1 ∷ num 2 ∷ []) ∷ arr (num 3 ∷ []) ∷ [])))
    (errors (error (Constant (num 1)) "/0/1" "/items/items/const" ∷ error (Constant (num 1)) "/1/0" "/items/items/const"
    ∷ [])) ∷
    -- a keyword of a subschema may be overridden: {"items":{"type":"string"}} on [5], with `type` overridden
    row (on (without "type" latest) (obj (is "items" (obj (is "type" (str "string") ∷ [])) ∷ [])) (arr (num 5 ∷ [])))
    valid ∷
    -- items of no schema assert nothing: {"items":5} on [1]
    row (on latest (obj (is "items" (num 5) ∷ [])) (arr (num 1 ∷ [])))
    valid ∷
    []

right_items_answers : Right items_answers
unfolding digits asserted read_keyword
right_items_answers = refl

-- ---- `prefixItems`

abbrev prefix_items_answers : List (Row Answer)
prefix_items_answers =
    -- items begin behind the prefix: {"prefixItems":[{"type":"integer"}],"items":{"type":"string"}} on [1,2]
    row (on latest (obj (is "prefixItems" (arr (obj (is "type" (str "integer") ∷ []) ∷ []))
    ∷ is "items" (obj (is "type" (str "string") ∷ [])) ∷ [])) (arr (num 1 ∷ num 2 ∷ [])))
    (errors (error (WrongType (Single String)) "/1" "/items/type" ∷ [])) ∷
    -- items read an overridden prefix: {"prefixItems":[false],"items":{"type":"string"}} on [5,5], with `prefixItems`
    -- overridden
    row (on (without "prefixItems" latest)
    (obj (is "prefixItems" (arr (no ∷ [])) ∷ is "items" (obj (is "type" (str "string") ∷ [])) ∷ []))
    (arr (num 5 ∷ num 5 ∷ [])))
    (errors (error (WrongType (Single String)) "/1" "/items/type" ∷ [])) ∷
    -- items begin at the first beside no prefix: {"prefixItems":5,"items":false} on [1], with `prefixItems` overridden
    row (on (without "prefixItems" latest) (obj (is "prefixItems" (num 5) ∷ is "items" no ∷ [])) (arr (num 1 ∷ [])))
    (errors (error FalseSchema "/0" "/items" ∷ [])) ∷
    -- Draft 7 has no prefix: {"prefixItems":[true],"items":false} on [1], in Draft 7
    row (on (under Draft7) (obj (is "prefixItems" (arr (yes ∷ [])) ∷ is "items" no ∷ [])) (arr (num 1 ∷ [])))
    (errors (error FalseSchema "/0" "/items" ∷ [])) ∷
    -- prefix items came with 2020-12: {"prefixItems":[false]} on [1], in 2019-09
    row (on (under Draft201909) (obj (is "prefixItems" (arr (no ∷ [])) ∷ [])) (arr (num 1 ∷ [])))
    valid ∷
    -- prefix items are no validation: {"prefixItems":[false]} on [1], with the vocabulary of Validation 6 alone
    row (on (with validation_only latest) (obj (is "prefixItems" (arr (no ∷ [])) ∷ [])) (arr (num 1 ∷ [])))
    valid ∷
    -- prefix items are applicators: {"prefixItems":[false]} on [1], with the vocabulary of Core 10 alone
    row (on (with applicator_only latest) (obj (is "prefixItems" (arr (no ∷ [])) ∷ [])) (arr (num 1 ∷ [])))
    (errors (error FalseSchema "/0" "/prefixItems/0" ∷ [])) ∷
    []

right_prefix_items_answers : Right prefix_items_answers
unfolding digits asserted read_keyword
right_prefix_items_answers = refl

-- ---- `additionalItems`

abbrev additional_items_answers : List (Row Answer)
additional_items_answers =
    -- additional items are counted: {"items":[{"type":"integer"}],"additionalItems":false} on [1,2], in Draft 7
    row (on (under Draft7)
    (obj (is "items" (arr (obj (is "type" (str "integer") ∷ []) ∷ [])) ∷ is "additionalItems" no ∷ []))
    (arr (num 1 ∷ num 2 ∷ [])))
    (errors (error (AdditionalItems 1) "" "/additionalItems" ∷ [])) ∷
    -- additional items are no validation: {"items":[{}],"additionalItems":false} on [1,2], in 2019-09 with the
    -- vocabulary of Validation 6 alone
    row (on (with validation_only (under Draft201909))
    (obj (is "items" (arr (obj [] ∷ [])) ∷ is "additionalItems" no ∷ [])) (arr (num 1 ∷ num 2 ∷ [])))
    valid ∷
    -- additional items are applicators: {"items":[{}],"additionalItems":false} on [1,2], in 2019-09 with the
    -- vocabulary of Core 10 alone
    row (on (with applicator_only (under Draft201909))
    (obj (is "items" (arr (obj [] ∷ [])) ∷ is "additionalItems" no ∷ [])) (arr (num 1 ∷ num 2 ∷ [])))
    (errors (error (AdditionalItems 1) "" "/additionalItems" ∷ [])) ∷
    -- additional items went with 2020-12: {"items":[{}],"additionalItems":false} on [1,2]
    row (on latest (obj (is "items" (arr (obj [] ∷ [])) ∷ is "additionalItems" no ∷ [])) (arr (num 1 ∷ num 2 ∷ [])))
    valid ∷
    -- additional items need a list of schemas: {"items":{},"additionalItems":false} on [1], in Draft 7
    row (on (under Draft7) (obj (is "items" (obj []) ∷ is "additionalItems" no ∷ [])) (arr (num 1 ∷ [])))
    valid ∷
    -- additional items begin behind the list: {"items":[{}],"additionalItems":{"type":"string"}} on [1,2], in Draft 7
    row (on (under Draft7)
    (obj (is "items" (arr (obj [] ∷ [])) ∷ is "additionalItems" (obj (is "type" (str "string") ∷ [])) ∷ []))
    (arr (num 1 ∷ num 2 ∷ [])))
    (errors (error (WrongType (Single String)) "/1" "/additionalItems/type" ∷ [])) ∷
    []

right_additional_items_answers : Right additional_items_answers
unfolding digits asserted read_keyword
right_additional_items_answers = refl

-- ---- `contains`, `minContains`, `maxContains`

abbrev contains_answers : List (Row Answer)
contains_answers =
    -- Draft 4 has no contains: {"contains":false} on [], in Draft 4
    row (on (under Draft4) (obj (is "contains" no ∷ [])) (arr []))
    valid ∷
    -- contains needs a match: {"contains":false} on [], in Draft 6
    row (on (under Draft6) (obj (is "contains" no ∷ [])) (arr []))
    (errors (error Contains "" "/contains" ∷ [])) ∷
    -- max contains needs a match too: {"contains":{"type":"integer"},"maxContains":1} on ["a"]
    row (on latest (obj (is "contains" (obj (is "type" (str "integer") ∷ [])) ∷ is "maxContains" (num 1) ∷ []))
    (arr (str "a" ∷ [])))
    (errors (error Contains "" "/maxContains" ∷ [])) ∷
    -- min contains 0 needs no match: {"contains":{"type":"integer"},"minContains":0} on ["a"]
    row (on latest (obj (is "contains" (obj (is "type" (str "integer") ∷ [])) ∷ is "minContains" (num 0) ∷ []))
    (arr (str "a" ∷ [])))
    valid ∷
    -- Draft 7 reads no min contains: {"contains":{"type":"integer"},"minContains":0} on ["a"], in Draft 7
    row (on (under Draft7) (obj (is "contains" (obj (is "type" (str "integer") ∷ [])) ∷ is "minContains" (num 0) ∷ []))
    (arr (str "a" ∷ [])))
    (errors (error Contains "" "/contains" ∷ [])) ∷
    -- bounds of contains are validation: {"contains":{"items":false},"minContains":2} on [[1],[]], in 2019-09 with the
    -- vocabulary of Core 10 alone
    row (on (with applicator_only (under Draft201909))
    (obj (is "contains" (obj (is "items" no ∷ [])) ∷ is "minContains" (num 2) ∷ []))
    (arr (arr (num 1 ∷ []) ∷ arr [] ∷ [])))
    valid ∷
    -- contains needs a match without its bounds: {"contains":{"items":false},"minContains":2} on [], in 2019-09 with
    -- the vocabulary of Core 10 alone
    row (on (with applicator_only (under Draft201909))
    (obj (is "contains" (obj (is "items" no ∷ [])) ∷ is "minContains" (num 2) ∷ [])) (arr []))
    (errors (error Contains "" "/contains" ∷ [])) ∷
    -- too many matches come first: {"contains":{"type":"integer"},"minContains":3,"maxContains":1} on [1,2]
    row (on latest (obj (is "contains" (obj (is "type" (str "integer") ∷ [])) ∷ is "minContains" (num 3)
    ∷ is "maxContains" (num 1) ∷ [])) (arr (num 1 ∷ num 2 ∷ [])))
    (errors (error Contains "" "/maxContains" ∷ [])) ∷
    -- too few matches fail at min contains: {"contains":true,"minContains":2,"maxContains":3} on ["a"]
    row (on latest (obj (is "contains" yes ∷ is "minContains" (num 2) ∷ is "maxContains" (num 3) ∷ []))
    (arr (str "a" ∷ [])))
    (errors (error Contains "" "/minContains" ∷ [])) ∷
    -- min contains alone fails at its own place: {"contains":true,"minContains":2} on [1]
    row (on latest (obj (is "contains" yes ∷ is "minContains" (num 2) ∷ [])) (arr (num 1 ∷ [])))
    (errors (error Contains "" "/minContains" ∷ [])) ∷
    -- an overridden min contains is read: {"contains":true,"minContains":2} on [1], with `minContains` overridden
    row (on (without "minContains" latest) (obj (is "contains" yes ∷ is "minContains" (num 2) ∷ [])) (arr (num 1 ∷ [])))
    (errors (error Contains "" "/minContains" ∷ [])) ∷
    -- bounds of contains came with 2019-09: {"contains":false,"minContains":0} on [1], in 2019-09
    row (on (under Draft201909) (obj (is "contains" no ∷ is "minContains" (num 0) ∷ [])) (arr (num 1 ∷ [])))
    valid ∷
    []

right_contains_answers : Right contains_answers
unfolding asserted read_keyword
right_contains_answers = refl

-- ---- the order of keywords of items

abbrev order_answers : List (Row Answer)
order_answers =
    -- items prefix contains and unique items come in turn:
    -- {"uniqueItems":true,"contains":false,"prefixItems":[false],"items":[false]} on [1,1]
    row (on latest (obj
    (is "uniqueItems" yes ∷ is "contains" no ∷ is "prefixItems" (arr (no ∷ [])) ∷ is "items" (arr (no ∷ [])) ∷ []))
    (arr (num 1 ∷ num 1 ∷ [])))
    (errors (error FalseSchema "/0" "/items/0" ∷ error FalseSchema "/0" "/prefixItems/0" ∷ error Contains "" "/contains"
    ∷ error UniqueItems "" "/uniqueItems" ∷ [])) ∷
    -- additional items come before contains: {"contains":false,"additionalItems":false,"items":[]} on [1], in Draft 7
    row (on (under Draft7) (obj (is "contains" no ∷ is "additionalItems" no ∷ is "items" (arr []) ∷ []))
    (arr (num 1 ∷ [])))
    (errors (error (AdditionalItems 0) "" "/additionalItems" ∷ error Contains "" "/contains" ∷ [])) ∷
    []

right_order_answers : Right order_answers
unfolding digits asserted read_keyword
right_order_answers = refl

-- ---- `uniqueItems`, `const`, `enum`

abbrev values_answers : List (Row Answer)
values_answers =
    -- unique items come before const: {"const":2,"uniqueItems":true} on [1,1]
    row (on latest (obj (is "const" (num 2) ∷ is "uniqueItems" yes ∷ [])) (arr (num 1 ∷ num 1 ∷ [])))
    (errors (error UniqueItems "" "/uniqueItems" ∷ error (Constant (num 2)) "" "/const" ∷ [])) ∷
    -- objects of other names differ: {"const":{"a":1}} on {"b":1}
    row (on latest (obj (is "const" (obj (is "a" (num 1) ∷ [])) ∷ [])) (obj (is "b" (num 1) ∷ [])))
    (errors (error (Constant (obj (is "a" (num 1) ∷ []))) "" "/const" ∷ [])) ∷
    -- objects of more names differ: {"const":{"a":1}} on {"a":1,"b":1}
    row (on latest (obj (is "const" (obj (is "a" (num 1) ∷ [])) ∷ [])) (obj (is "a" (num 1) ∷ is "b" (num 1) ∷ [])))
    (errors (error (Constant (obj (is "a" (num 1) ∷ []))) "" "/const" ∷ [])) ∷
    -- options are equal by value: {"enum":[1,2,null]} on 1.0
    row (on_tree latest (obj (is "enum" (arr (num 1 ∷ num 2 ∷ null ∷ [])) ∷ [])) (decimal_tree (pos 10) 1))
    valid ∷
    -- options are reported whole: {"enum":[1,2,null]} on "1"
    row (on latest (obj (is "enum" (arr (num 1 ∷ num 2 ∷ null ∷ [])) ∷ [])) (str "1"))
    (errors (error (Enum (Listed (arr (num 1 ∷ num 2 ∷ null ∷ [])))) "" "/enum" ∷ [])) ∷
    []

right_values_answers : Right values_answers
unfolding asserted read_keyword
right_values_answers = refl

-- ---- numbers

abbrev numbers_answers : List (Row Answer)
numbers_answers =
    -- limits come before divisors: {"multipleOf":2,"exclusiveMaximum":1,"exclusiveMinimum":5,"maximum":1,"minimum":5}
    -- on 3
    row (on latest (obj (is "multipleOf" (num 2) ∷ is "exclusiveMaximum" (num 1) ∷ is "exclusiveMinimum" (num 5)
    ∷ is "maximum" (num 1) ∷ is "minimum" (num 5) ∷ [])) (num 3))
    (errors (error (Minimum (pos 5)) "" "/minimum" ∷ error (Maximum (pos 1)) "" "/maximum"
    ∷ error (ExclusiveMinimum (pos 5)) "" "/exclusiveMinimum"
    ∷ error (ExclusiveMaximum (pos 1)) "" "/exclusiveMaximum" ∷ error (MultipleOf 2) "" "/multipleOf" ∷ [])) ∷
    -- limits are exact: {"maximum":-1} on -1.5
    row (on_tree latest (obj (is "maximum" (minus 1) ∷ [])) (decimal_tree (negsuc 14) 1))
    valid ∷
    -- divisors are exact: {"multipleOf":9007199254740993} on 18014398509481984
    row (on latest (obj (is "multipleOf" (num 9007199254740993) ∷ [])) (num 18014398509481984))
    (errors (error (MultipleOf 9007199254740993) "" "/multipleOf" ∷ [])) ∷
    -- Draft 4 makes a limit exclusive: {"minimum":5,"exclusiveMinimum":true} on 5, in Draft 4
    row (on (under Draft4) (obj (is "minimum" (num 5) ∷ is "exclusiveMinimum" yes ∷ [])) (num 5))
    (errors (error (ExclusiveMinimum (pos 5)) "" "/exclusiveMinimum" ∷ [])) ∷
    -- later drafts have no flag: {"minimum":5,"exclusiveMinimum":true} on 5, in Draft 7 with `exclusiveMinimum`
    -- overridden
    row (on (without "exclusiveMinimum" (under Draft7))
    (obj (is "minimum" (num 5) ∷ is "exclusiveMinimum" yes ∷ [])) (num 5))
    valid ∷
    []

right_numbers_answers : Right numbers_answers
unfolding asserted read_keyword
right_numbers_answers = refl

-- ---- objects

abbrev objects_answers : List (Row Answer)
objects_answers =
    -- members are counted before names: {"required":["z"],"maxProperties":0,"minProperties":2} on {"a":1}
    row (on latest
    (obj (is "required" (arr (str "z" ∷ [])) ∷ is "maxProperties" (num 0) ∷ is "minProperties" (num 2) ∷ []))
    (obj (is "a" (num 1) ∷ [])))
    (errors (error (MinProperties 2) "" "/minProperties" ∷ error (MaxProperties 0) "" "/maxProperties"
    ∷ error (Required (codes "z")) "" "/required" ∷ [])) ∷
    -- missing names are reported once in order: {"required":["a","b","c","a"]} on {"b":1}
    row (on latest (obj (is "required" (arr (str "a" ∷ str "b" ∷ str "c" ∷ str "a" ∷ [])) ∷ []))
    (obj (is "b" (num 1) ∷ [])))
    (errors (error (Required (codes "a")) "" "/required" ∷ error (Required (codes "c")) "" "/required" ∷ [])) ∷
    []

right_objects_answers : Right objects_answers
unfolding asserted read_keyword is_handed_on
right_objects_answers = refl
