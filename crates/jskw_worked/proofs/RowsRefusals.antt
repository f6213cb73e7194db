-- Worked rows: values that a schema may not have.
-- A row is what is asked and what is wanted, below its words and JSON. It is of Draft 2020-12 if nothing else is said.
-- A list has the rows of one type, of which a comparison unfolds the same names.
use Rattle.std.specs.Prelude.{List, [], ◌∷◌, pos}
use Rattle.std.specs.Fmt.{digits}
use Rattle.std.proofs.Common.{refl}
use Rattle.jskw_value.specs.declared.types.JsonType.TheVariants.{Array, Boolean, Integer, Number, Object}
use Rattle.jskw_report.specs.declared.settings.Draft.TheVariants.{Draft4, Draft7}
use Rattle.jskw_report.specs.KeywordValue.{of_type, of_types, not_whole, unknown_type}
use Rattle.jskw_report.specs.Kind.{Enum, ExclusiveMinimum, Minimum, TypeNames}
use Rattle.jskw_report.specs.Read.{asserted, read_keyword}
use Rattle.jskw_worked.proofs.Worked.{Row, row, Right, Answer, num, minus, a_float, str, yes, arr, is, obj, under}
use Rattle.jskw_worked.proofs.Worked.{latest, refusal, compile}

-- ---- refusals

abbrev refusals_answers : List (Row Answer)
refusals_answers =
    -- an array is no schema: ["type"]
    row (compile latest (arr (str "type" ∷ [])))
    (refusal (of_types Boolean Object) "" (arr (str "type" ∷ []))) ∷
    -- type is judged first: {"minItems":-1,"type":"foo"}
    row (compile latest (obj (is "minItems" (minus 1) ∷ is "type" (str "foo") ∷ [])))
    (refusal unknown_type "/type" (str "foo")) ∷
    -- names of types are listed: {"type":["foo","string"]}
    row (compile latest (obj (is "type" (arr (str "foo" ∷ str "string" ∷ [])) ∷ [])))
    (refusal (Enum TypeNames) "/type" (str "foo")) ∷
    -- subschemas are judged in their turn: {"items":{"type":"foo"},"minimum":"x"}
    row (compile latest (obj (is "items" (obj (is "type" (str "foo") ∷ [])) ∷ is "minimum" (str "x") ∷ [])))
    (refusal unknown_type "/items/type" (str "foo")) ∷
    -- each item is a schema: {"prefixItems":[true,5]}
    row (compile latest (obj (is "prefixItems" (arr (yes ∷ num 5 ∷ [])) ∷ [])))
    (refusal (of_types Boolean Object) "/prefixItems/1" (num 5)) ∷
    -- bounds are judged before contains: {"contains":5,"maxContains":"a"}
    row (compile latest (obj (is "contains" (num 5) ∷ is "maxContains" (str "a") ∷ [])))
    (refusal (of_type Integer) "/maxContains" (str "a")) ∷
    -- contains is judged at its own location: {"contains":{"type":"foo"},"minContains":2}
    row (compile latest (obj (is "contains" (obj (is "type" (str "foo") ∷ [])) ∷ is "minContains" (num 2) ∷ [])))
    (refusal unknown_type "/contains/type" (str "foo")) ∷
    -- min contains is judged before max contains: {"contains":{},"maxContains":"a","minContains":-1}
    row (compile latest (obj (is "contains" (obj []) ∷ is "maxContains" (str "a") ∷ is "minContains" (minus 1) ∷ [])))
    (refusal (Minimum (pos 0)) "/minContains" (minus 1)) ∷
    -- the first float is found: {"enum":[1,[2,{"a":1.5}]]}
    row (compile latest (obj (is "enum" (arr (num 1 ∷ arr (num 2 ∷ obj (is "a" a_float ∷ []) ∷ []) ∷ [])) ∷ [])))
    (refusal not_whole "/enum" a_float) ∷
    -- a divisor is above 0: {"multipleOf":0}
    row (compile latest (obj (is "multipleOf" (num 0) ∷ [])))
    (refusal (ExclusiveMinimum (pos 0)) "/multipleOf" (num 0)) ∷
    -- an exclusive limit is judged at its flag: {"minimum":"x","exclusiveMinimum":true}, in Draft 4
    row (compile (under Draft4) (obj (is "minimum" (str "x") ∷ is "exclusiveMinimum" yes ∷ [])))
    (refusal (of_type Number) "/exclusiveMinimum" (str "x")) ∷
    -- prefix items take an array: {"prefixItems":5}
    row (compile latest (obj (is "prefixItems" (num 5) ∷ [])))
    (refusal (of_type Array) "/prefixItems" (num 5)) ∷
    -- additional items take a schema: {"items":[{}],"additionalItems":5}, in Draft 7
    row (compile (under Draft7) (obj (is "items" (arr (obj [] ∷ [])) ∷ is "additionalItems" (num 5) ∷ [])))
    (refusal (of_types Boolean Object) "/additionalItems" (num 5)) ∷
    -- items are judged before prefix items: {"prefixItems":5,"items":{"type":"foo"}}
    row (compile latest (obj (is "prefixItems" (num 5) ∷ is "items" (obj (is "type" (str "foo") ∷ [])) ∷ [])))
    (refusal unknown_type "/items/type" (str "foo")) ∷
    -- a list of items is judged by index: {"items":[{"type":"foo"},5]}
    row (compile latest (obj (is "items" (arr (obj (is "type" (str "foo") ∷ []) ∷ num 5 ∷ [])) ∷ [])))
    (refusal unknown_type "/items/0/type" (str "foo")) ∷
    []

right_refusals_answers : Right refusals_answers
unfolding digits asserted read_keyword
right_refusals_answers = refl
