-- Worked rows: a `required` that is delegated, and the fused shape.
-- A row is what is asked and what is wanted, below its words and JSON. It is of Draft 2020-12 if nothing else is said.
-- A list has the rows of one type, of which a comparison unfolds the same names.
use Rattle.std.specs.Prelude.{List, Option, Bool, [], ◌∷◌, true, false, codes, Some, Ok}
use Rattle.std.specs.Fmt.{digits}
use Rattle.std.proofs.Common.{refl}
use Rattle.jskw_value.specs.declared.types.JsonType.TheVariants.{String}
use Rattle.jskw_report.specs.declared.settings.Draft.TheVariants.{Draft7, Draft201909}
use Rattle.jskw_report.specs.Keyword.{assertion, required}
use Rattle.jskw_report.specs.KeywordValue.{of_type}
use Rattle.jskw_report.specs.Read.{Asserts, asserted, read_keyword}
use Rattle.jskw_report.specs.Setting.{no_vocabulary, with_object_layer}
use Rattle.jskw_report.specs.Sibling.{is_handed_on, is_fused}
use Rattle.jskw_worked.proofs.Worked.{Row, row, Right, Answer, num, minus, str, yes, no, arr, is, obj, obj_of, under}
use Rattle.jskw_worked.proofs.Worked.{latest, with, applicator_only, validation_only, without, delegates, asserted_in}
use Rattle.jskw_worked.proofs.Worked.{fused, compile, refusal}
use Rattle.jskw_report.specs.declared.keyword.KeywordName.TheVariants as keyword_name

-- ---- what is delegated

abbrev delegated_marks : List (Row (Option Bool))
delegated_marks =
    -- what is delegated is not judged: {"properties":{"a":{}},"additionalProperties":false,"required":[5]}
    row (delegates latest (obj (is "properties" (obj (is "a" (obj []) ∷ [])) ∷ is "additionalProperties" no
    ∷ is "required" (arr (num 5 ∷ [])) ∷ [])))
    (Some true) ∷
    -- a subschema delegates: {"items":{"properties":{"a":{}},"required":["a","b"]}}
    row (delegates latest (obj (is "items"
    (obj (is "properties" (obj (is "a" (obj []) ∷ [])) ∷ is "required" (arr (str "a" ∷ str "b" ∷ [])) ∷ [])) ∷ [])))
    (Some true) ∷
    -- without an object layer no subschema delegates: {"items":{"properties":{"a":{}},"required":["a","b"]}}, without
    -- an object layer
    row (delegates (with_object_layer false latest) (obj (is "items"
    (obj (is "properties" (obj (is "a" (obj []) ∷ [])) ∷ is "required" (arr (str "a" ∷ str "b" ∷ [])) ∷ [])) ∷ [])))
    (Some false) ∷
    -- without the applicator vocabulary it stays: {"properties":{"a":{}},"required":["a","b"]}, with the vocabulary of
    -- Validation 6 alone
    row (delegates (with validation_only latest)
    (obj (is "properties" (obj (is "a" (obj []) ∷ [])) ∷ is "required" (arr (str "a" ∷ str "b" ∷ [])) ∷ [])))
    (Some false) ∷
    -- two names are delegated beside 14: {"properties":{..},"required":["a","b"]}, with 14 properties
    row (delegates latest (obj (is "properties" (obj_of 14) ∷ is "required" (arr (str "a" ∷ str "b" ∷ [])) ∷ [])))
    (Some true) ∷
    -- two names stay beside 15: {"properties":{..},"required":["a","b"]}, with 15 properties
    row (delegates latest (obj (is "properties" (obj_of 15) ∷ is "required" (arr (str "a" ∷ str "b" ∷ [])) ∷ [])))
    (Some false) ∷
    -- an item of a list delegates: {"items":[{"properties":{"a":{}},"required":["a","b"]}]}
    row (delegates latest (obj (is "items" (arr
    (obj (is "properties" (obj (is "a" (obj []) ∷ [])) ∷ is "required" (arr (str "a" ∷ str "b" ∷ [])) ∷ []) ∷ []))
    ∷ [])))
    (Some true) ∷
    -- a prefix item delegates: {"prefixItems":[{"properties":{"a":{}},"required":["a","b"]}]}
    row (delegates latest (obj (is "prefixItems" (arr
    (obj (is "properties" (obj (is "a" (obj []) ∷ [])) ∷ is "required" (arr (str "a" ∷ str "b" ∷ [])) ∷ []) ∷ []))
    ∷ [])))
    (Some true) ∷
    -- additional items delegate: {"items":[],"additionalItems":{"properties":{"a":{}},"required":["a","b"]}}, in Draft
    -- 7
    row (delegates (under Draft7) (obj (is "items" (arr []) ∷ is "additionalItems"
    (obj (is "properties" (obj (is "a" (obj []) ∷ [])) ∷ is "required" (arr (str "a" ∷ str "b" ∷ [])) ∷ [])) ∷ [])))
    (Some true) ∷
    -- contains delegates: {"contains":{"properties":{"a":{}},"required":["a","b"]}}
    row (delegates latest (obj (is "contains"
    (obj (is "properties" (obj (is "a" (obj []) ∷ [])) ∷ is "required" (arr (str "a" ∷ str "b" ∷ [])) ∷ [])) ∷ [])))
    (Some true) ∷
    []

right_delegated_marks : Right delegated_marks
unfolding digits asserted read_keyword is_handed_on
right_delegated_marks = refl

abbrev delegated_assertions : List (Row Asserts)
delegated_assertions =
    -- pattern properties keep it here: {"properties":{"a":{}},"required":["a","b"],"patternProperties":{}}
    row (asserted_in keyword_name.Required latest (obj (is "properties" (obj (is "a" (obj []) ∷ []))
    ∷ is "required" (arr (str "a" ∷ str "b" ∷ [])) ∷ is "patternProperties" (obj []) ∷ [])))
    (Some (Ok (assertion (codes "/required") (required (codes "a" ∷ codes "b" ∷ []))))) ∷
    -- without an object layer it stays: {"properties":{"a":{}},"additionalProperties":false,"required":["a"]}, without
    -- an object layer
    row (asserted_in keyword_name.Required (with_object_layer false latest) (obj (is "properties"
    (obj (is "a" (obj []) ∷ [])) ∷ is "additionalProperties" no ∷ is "required" (arr (str "a" ∷ [])) ∷ [])))
    (Some (Ok (assertion (codes "/required") (required (codes "a" ∷ []))))) ∷
    []

right_delegated_assertions : Right delegated_assertions
unfolding digits asserted read_keyword is_handed_on
right_delegated_assertions = refl

abbrev delegated_answers : List (Row Answer)
delegated_answers =
    -- without an object layer it is judged: {"properties":{"a":{}},"additionalProperties":false,"required":[5]},
    -- without an object layer
    row (compile (with_object_layer false latest) (obj (is "properties" (obj (is "a" (obj []) ∷ []))
    ∷ is "additionalProperties" no ∷ is "required" (arr (num 5 ∷ [])) ∷ [])))
    (refusal (of_type String) "/required" (num 5)) ∷
    []

right_delegated_answers : Right delegated_answers
unfolding digits asserted read_keyword is_handed_on
right_delegated_answers = refl

-- ---- the fused shape

abbrev fused_shapes : List (Row Bool)
fused_shapes =
    -- type and items are fused: {"type":"array","items":false}
    row (fused latest (obj (is "type" (str "array") ∷ is "items" no ∷ [])))
    true ∷
    -- a bad bound is not fused: {"type":"array","items":{},"minItems":-1}
    row (fused latest (obj (is "type" (str "array") ∷ is "items" (obj []) ∷ is "minItems" (minus 1) ∷ [])))
    false ∷
    -- a keyword of items is not fused: {"type":"array","items":{},"contains":{}}, with `contains` overridden
    row (fused (without "contains" latest)
    (obj (is "type" (str "array") ∷ is "items" (obj []) ∷ is "contains" (obj []) ∷ [])))
    false ∷
    -- unevaluated items are not fused: {"type":"array","items":{},"unevaluatedItems":false}
    row (fused latest (obj (is "type" (str "array") ∷ is "items" (obj []) ∷ is "unevaluatedItems" no ∷ [])))
    false ∷
    -- an absent bound may be overridden: {"type":"array","items":{}}, with `maxItems` overridden
    row (fused (without "maxItems" latest) (obj (is "type" (str "array") ∷ is "items" (obj []) ∷ [])))
    true ∷
    -- the applicator alone is not fused: {"type":"array","items":{}}, in 2019-09 with the vocabulary of Core 10 alone
    row (fused (with applicator_only (under Draft201909)) (obj (is "type" (str "array") ∷ is "items" (obj []) ∷ [])))
    false ∷
    -- items of true are not fused: {"type":"array","items":true}
    row (fused latest (obj (is "type" (str "array") ∷ is "items" yes ∷ [])))
    false ∷
    -- an array of one type is not fused: {"type":["array"],"items":{}}
    row (fused latest (obj (is "type" (arr (str "array" ∷ [])) ∷ is "items" (obj []) ∷ [])))
    false ∷
    -- an overridden bound is not fused: {"type":"array","items":{},"minItems":1}, with `minItems` overridden
    row (fused (without "minItems" latest)
    (obj (is "type" (str "array") ∷ is "items" (obj []) ∷ is "minItems" (num 1) ∷ [])))
    false ∷
    -- prefix items are not fused: {"type":"array","items":{},"prefixItems":[]}, in Draft 7
    row (fused (under Draft7) (obj (is "type" (str "array") ∷ is "items" (obj []) ∷ is "prefixItems" (arr []) ∷ [])))
    false ∷
    -- additional items are not fused: {"type":"array","items":{},"additionalItems":false}
    row (fused latest (obj (is "type" (str "array") ∷ is "items" (obj []) ∷ is "additionalItems" no ∷ [])))
    false ∷
    -- unique items are not fused: {"type":"array","items":{},"uniqueItems":false}
    row (fused latest (obj (is "type" (str "array") ∷ is "items" (obj []) ∷ is "uniqueItems" no ∷ [])))
    false ∷
    -- Draft 7 is fused without vocabularies: {"type":"array","items":{}}, in Draft 7 with no vocabulary
    row (fused (with no_vocabulary (under Draft7)) (obj (is "type" (str "array") ∷ is "items" (obj []) ∷ [])))
    true ∷
    []

right_fused_shapes : Right fused_shapes
unfolding is_fused
right_fused_shapes = refl
