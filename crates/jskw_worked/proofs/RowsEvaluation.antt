-- Worked rows: evaluation trees.
-- A row is what is asked and what is wanted, below its words and JSON. It is of Draft 2020-12 if nothing else is said.
-- A list has the rows of one type, of which a comparison unfolds the same names.
use Rattle.std.specs.Prelude.{List, Option, [], ◌∷◌, true, false, Some, None}
use Rattle.std.specs.Fmt.{digits}
use Rattle.std.proofs.Common.{refl}
use Rattle.jskw_report.specs.declared.settings.Draft.TheVariants.{Draft4, Draft7}
use Rattle.jskw_report.specs.Evaluation.{Evaluation, flag, index, indices, of_errors}
use Rattle.jskw_report.specs.Read.{asserted, read_keyword}
use Rattle.jskw_worked.proofs.Worked.{Row, row, Right, num, str, yes, no, arr, is, obj, under, latest, ev, evaluated}

-- ---- evaluation trees

abbrev evaluations_trees : List (Row (Option Evaluation))
evaluations_trees =
    -- each keyword has a node: {"type":"array","minItems":2,"items":{"type":"string"}} on [1]
    row (evaluated latest
    (obj (is "type" (str "array") ∷ is "minItems" (num 2) ∷ is "items" (obj (is "type" (str "string") ∷ [])) ∷ []))
    (arr (num 1 ∷ [])))
    (Some (ev false "" "" None [] (ev true "/type" "" None [] [] ∷ ev false "/minItems" "" None ("minItems" ∷ []) []
    ∷ ev false "/items" "" (Some (flag true)) []
    (ev false "/items" "/0" None [] (ev false "/items/type" "/0" None ("type" ∷ []) [] ∷ []) ∷ []) ∷ []))) ∷
    -- contains tells the matches: {"contains":{"type":"string"}} on [1,"a"]
    row (evaluated latest (obj (is "contains" (obj (is "type" (str "string") ∷ [])) ∷ [])) (arr (num 1 ∷ str "a" ∷ [])))
    (Some (ev true "" "" None [] (ev true "/contains" "" (Some (indices (1 ∷ []))) []
    (ev true "/contains" "/1" None [] (ev true "/contains/type" "/1" None [] [] ∷ []) ∷ []) ∷ []))) ∷
    -- a bounded contains tells the matches: {"contains":{"type":"string"},"minContains":0} on [1,"a"]
    row (evaluated latest (obj (is "contains" (obj (is "type" (str "string") ∷ [])) ∷ is "minContains" (num 0) ∷ []))
    (arr (num 1 ∷ str "a" ∷ [])))
    (Some (ev true "" "" None [] (ev true "/contains" "" (Some (indices (1 ∷ []))) []
    (ev true "/contains" "/1" None [] (ev true "/contains/type" "/1" None [] [] ∷ []) ∷ []) ∷ []))) ∷
    -- a contains with an upper bound tells the matches: {"contains":{"type":"string"},"maxContains":1} on ["a"]
    row (evaluated latest (obj (is "contains" (obj (is "type" (str "string") ∷ [])) ∷ is "maxContains" (num 1) ∷ []))
    (arr (str "a" ∷ [])))
    (Some (ev true "" "" None [] (ev true "/contains" "" (Some (indices (0 ∷ []))) []
    (ev true "/contains" "/0" None [] (ev true "/contains/type" "/0" None [] [] ∷ []) ∷ []) ∷ []))) ∷
    -- a bounded contains that fails tells its error alone: {"contains":{"type":"string"},"maxContains":1} on ["a","b"]
    row (evaluated latest (obj (is "contains" (obj (is "type" (str "string") ∷ [])) ∷ is "maxContains" (num 1) ∷ []))
    (arr (str "a" ∷ str "b" ∷ [])))
    (Some (ev false "" "" None [] (ev false "/contains" "" None ("contains" ∷ []) [] ∷ []))) ∷
    -- prefix items tell the last index: {"prefixItems":[{"type":"integer"}]} on [1,"x"]
    row (evaluated latest (obj (is "prefixItems" (arr (obj (is "type" (str "integer") ∷ []) ∷ [])) ∷ []))
    (arr (num 1 ∷ str "x" ∷ [])))
    (Some (ev true "" "" None [] (ev true "/prefixItems" "" (Some (index 0)) []
    (ev true "/prefixItems/0" "/0" None [] (ev true "/prefixItems/0/type" "/0" None [] [] ∷ []) ∷ []) ∷ []))) ∷
    -- prefix items tell that all are met: {"prefixItems":[{"type":"integer"}]} on [1]
    row (evaluated latest (obj (is "prefixItems" (arr (obj (is "type" (str "integer") ∷ []) ∷ [])) ∷ []))
    (arr (num 1 ∷ [])))
    (Some (ev true "" "" None [] (ev true "/prefixItems" "" (Some (flag true)) []
    (ev true "/prefixItems/0" "/0" None [] (ev true "/prefixItems/0/type" "/0" None [] [] ∷ []) ∷ []) ∷ []))) ∷
    -- an exclusive limit has its node at minimum: {"minimum":5,"exclusiveMinimum":true} on 5, in Draft 4
    row (evaluated (under Draft4) (obj (is "minimum" (num 5) ∷ is "exclusiveMinimum" yes ∷ [])) (num 5))
    (Some (ev false "" "" None [] (ev false "/minimum" "" None ("exclusiveMinimum" ∷ []) [] ∷ []))) ∷
    -- items of true have no node: {"items":true} on [1]
    row (evaluated latest (obj (is "items" yes ∷ [])) (arr (num 1 ∷ [])))
    (Some (ev true "" "" None [] [])) ∷
    -- additional items of true have no node: {"items":[true],"additionalItems":true} on [1], in Draft 7
    row (evaluated (under Draft7) (obj (is "items" (arr (yes ∷ [])) ∷ is "additionalItems" yes ∷ []))
    (arr (num 1 ∷ [])))
    (Some (ev true "" "" None [] (ev true "/items" "" None [] (ev true "/items/0" "/0" None [] [] ∷ []) ∷ []))) ∷
    -- additional items tell their errors alone: {"items":[{}],"additionalItems":{"type":"string"}} on [1,2], in Draft 7
    row (evaluated (under Draft7)
    (obj (is "items" (arr (obj [] ∷ [])) ∷ is "additionalItems" (obj (is "type" (str "string") ∷ [])) ∷ []))
    (arr (num 1 ∷ num 2 ∷ [])))
    (Some (ev false "" "" None [] (ev true "/items" "" None [] (ev true "/items/0" "/0" None [] [] ∷ [])
    ∷ ev false "/additionalItems" "" None ("type" ∷ []) [] ∷ []))) ∷
    -- items of an empty array tell false: {"items":{}} on []
    row (evaluated latest (obj (is "items" (obj []) ∷ [])) (arr []))
    (Some (ev true "" "" None [] (ev true "/items" "" (Some (flag false)) [] [] ∷ []))) ∷
    -- items of a number tell nothing: {"items":{}} on 5
    row (evaluated latest (obj (is "items" (obj []) ∷ [])) (num 5))
    (Some (ev true "" "" None [] (ev true "/items" "" None [] [] ∷ []))) ∷
    -- items behind all items tell false: {"prefixItems":[true],"items":{}} on [1]
    row (evaluated latest (obj (is "prefixItems" (arr (yes ∷ [])) ∷ is "items" (obj []) ∷ [])) (arr (num 1 ∷ [])))
    (Some (ev true "" "" None [] (ev true "/items" "" (Some (flag false)) [] []
    ∷ ev true "/prefixItems" "" (Some (flag true)) [] (ev true "/prefixItems/0" "/0" None [] [] ∷ []) ∷ []))) ∷
    -- items tell those behind the prefix: {"prefixItems":[true],"items":{}} on [1,2]
    row (evaluated latest (obj (is "prefixItems" (arr (yes ∷ [])) ∷ is "items" (obj []) ∷ []))
    (arr (num 1 ∷ num 2 ∷ [])))
    (Some (ev true "" "" None [] (ev true "/items" "" (Some (flag true)) [] (ev true "/items" "/1" None [] [] ∷ [])
    ∷ ev true "/prefixItems" "" (Some (index 0)) [] (ev true "/prefixItems/0" "/0" None [] [] ∷ []) ∷ []))) ∷
    -- an invalid node keeps what it tells: {"prefixItems":[true,false]} on [1,2,3]
    row (evaluated latest (obj (is "prefixItems" (arr (yes ∷ no ∷ [])) ∷ [])) (arr (num 1 ∷ num 2 ∷ num 3 ∷ [])))
    (Some (ev false "" "" None [] (ev false "/prefixItems" "" (Some (index 1)) []
    (ev true "/prefixItems/0" "/0" None [] [] ∷ ev false "/prefixItems/1" "/1" None ("falseSchema" ∷ []) [] ∷ [])
    ∷ []))) ∷
    -- prefix items of no schemas tell nothing: {"prefixItems":[]} on [1]
    row (evaluated latest (obj (is "prefixItems" (arr []) ∷ [])) (arr (num 1 ∷ [])))
    (Some (ev true "" "" None [] (ev true "/prefixItems" "" None [] [] ∷ []))) ∷
    -- prefix items of an empty array tell nothing: {"prefixItems":[{}]} on []
    row (evaluated latest (obj (is "prefixItems" (arr (obj [] ∷ [])) ∷ [])) (arr []))
    (Some (ev true "" "" None [] (ev true "/prefixItems" "" None [] [] ∷ []))) ∷
    -- contains of a number tells no indices: {"contains":{}} on 5
    row (evaluated latest (obj (is "contains" (obj []) ∷ [])) (num 5))
    (Some (ev true "" "" None [] (ev true "/contains" "" (Some (indices [])) [] [] ∷ []))) ∷
    -- a failed contains tells its error alone: {"contains":{"type":"string"}} on [1]
    row (evaluated latest (obj (is "contains" (obj (is "type" (str "string") ∷ [])) ∷ [])) (arr (num 1 ∷ [])))
    (Some (ev false "" "" None [] (ev false "/contains" "" None ("contains" ∷ []) [] ∷ []))) ∷
    []

right_evaluations_trees : Right evaluations_trees
unfolding digits asserted read_keyword of_errors
right_evaluations_trees = refl
