-- Worked rows: how many pairs of a schema and a tree meet.
-- A row is what is asked and what is wanted, below its words and JSON. It is of Draft 2020-12 if nothing else is said.
-- A list has the rows of one type, of which a comparison unfolds the same names.
use Rattle.std.specs.Prelude.{List, Option, ℕ, [], ◌∷◌, Some}
use Rattle.std.proofs.Common.{refl}
use Rattle.jskw_report.specs.declared.settings.Draft.TheVariants.{Draft7}
use Rattle.jskw_report.specs.Read.{asserted, read_keyword}
use Rattle.jskw_worked.proofs.Worked.{Row, row, Right, num, str, yes, no, arr, is, obj, under, latest, without}
use Rattle.jskw_worked.proofs.Worked.{pairs_on, pairs_by_depth, needed_on}

-- ---- pairs

abbrev pairs_counts : List (Row (Option ℕ))
pairs_counts =
    -- pairs are counted at each depth: {"items":{"items":{"const":1}}} on [[1,2],[3]]
    row (pairs_on latest (obj (is "items" (obj (is "items" (obj (is "const" (num 1) ∷ [])) ∷ [])) ∷ []))
    (arr (arr (num 1 ∷ num 2 ∷ []) ∷ arr (num 3 ∷ []) ∷ [])))
    (Some 6) ∷
    -- prefix items meet what their schemas meet: {"prefixItems":[{"items":{}},{"items":{}}]} on [[1,2],[3]]
    row (pairs_on latest
    (obj (is "prefixItems" (arr (obj (is "items" (obj []) ∷ []) ∷ obj (is "items" (obj []) ∷ []) ∷ [])) ∷ []))
    (arr (arr (num 1 ∷ num 2 ∷ []) ∷ arr (num 3 ∷ []) ∷ [])))
    (Some 6) ∷
    -- items meet those behind the prefix: {"prefixItems":[true],"items":{"const":1}} on [1,1,1]
    row (pairs_on latest (obj (is "prefixItems" (arr (yes ∷ [])) ∷ is "items" (obj (is "const" (num 1) ∷ [])) ∷ []))
    (arr (num 1 ∷ num 1 ∷ num 1 ∷ [])))
    (Some 4) ∷
    -- additional items meet those behind the list: {"items":[true],"additionalItems":{"const":1}} on [1,1,1], in Draft
    -- 7
    row (pairs_on (under Draft7)
    (obj (is "items" (arr (yes ∷ [])) ∷ is "additionalItems" (obj (is "const" (num 1) ∷ [])) ∷ []))
    (arr (num 1 ∷ num 1 ∷ num 1 ∷ [])))
    (Some 4) ∷
    []

right_pairs_counts : Right pairs_counts
unfolding asserted read_keyword
right_pairs_counts = refl

abbrev pairs_counts_by_depth : List (Row (Option (List ℕ)))
pairs_counts_by_depth =
    -- pairs lie as deep as their items: {"items":{"items":{"const":1}}} on [[1,2],[3]]
    row (pairs_by_depth latest (obj (is "items" (obj (is "items" (obj (is "const" (num 1) ∷ [])) ∷ [])) ∷ []))
    (arr (arr (num 1 ∷ num 2 ∷ []) ∷ arr (num 3 ∷ []) ∷ [])))
    (Some (1 ∷ 2 ∷ 3 ∷ 0 ∷ [])) ∷
    []

right_pairs_counts_by_depth : Right pairs_counts_by_depth
unfolding asserted read_keyword
right_pairs_counts_by_depth = refl

-- ---- pairs up to the first failure

abbrev needed_counts : List (Row (Option ℕ))
needed_counts =
    -- nothing is needed behind a failure: {"items":{"items":{"const":1}}} on [[1,2],[3]]: the 2 fails, and then
    -- nothing more is applied
    row (needed_on latest (obj (is "items" (obj (is "items" (obj (is "const" (num 1) ∷ [])) ∷ [])) ∷ []))
    (arr (arr (num 1 ∷ num 2 ∷ []) ∷ arr (num 3 ∷ []) ∷ [])))
    (Some 4) ∷
    -- items need nothing behind a failure: {"items":{"const":1}} on [2,1,1]
    row (needed_on latest (obj (is "items" (obj (is "const" (num 1) ∷ [])) ∷ [])) (arr (num 2 ∷ num 1 ∷ num 1 ∷ [])))
    (Some 2) ∷
    -- contains needs every item: {"contains":{"const":1}} on [1,2]
    row (needed_on latest (obj (is "contains" (obj (is "const" (num 1) ∷ [])) ∷ [])) (arr (num 1 ∷ num 2 ∷ [])))
    (Some 3) ∷
    -- keywords behind a failed one need nothing: {"type":"null","items":{"const":1}} on [1]
    row (needed_on latest (obj (is "type" (str "null") ∷ is "items" (obj (is "const" (num 1) ∷ [])) ∷ []))
    (arr (num 1 ∷ [])))
    (Some 1) ∷
    -- prefix items need nothing behind a failure: {"prefixItems":[false,true]} on [1,2]
    row (needed_on latest (obj (is "prefixItems" (arr (no ∷ yes ∷ [])) ∷ [])) (arr (num 1 ∷ num 2 ∷ [])))
    (Some 2) ∷
    -- additional items need nothing behind a failure: {"items":[],"additionalItems":{"const":1}} on [2,1], in Draft 7
    row (needed_on (under Draft7)
    (obj (is "items" (arr []) ∷ is "additionalItems" (obj (is "const" (num 1) ∷ [])) ∷ []))
    (arr (num 2 ∷ num 1 ∷ [])))
    (Some 2) ∷
    []

right_needed_counts : Right needed_counts
unfolding asserted read_keyword
right_needed_counts = refl

-- ---- bare type checks

abbrev bare_types_counts : List (Row (Option ℕ))
bare_types_counts =
    -- a bare type check is no pair: {"items":{"items":{"type":"integer"}}} on [[1,2],[3]]
    row (pairs_on latest (obj (is "items" (obj (is "items" (obj (is "type" (str "integer") ∷ [])) ∷ [])) ∷ []))
    (arr (arr (num 1 ∷ num 2 ∷ []) ∷ arr (num 3 ∷ []) ∷ [])))
    (Some 3) ∷
    -- a type that is overridden is not bare: {"items":{"type":"string"}} on [1,1], with `type` overridden
    row (pairs_on (without "type" latest) (obj (is "items" (obj (is "type" (str "string") ∷ [])) ∷ []))
    (arr (num 1 ∷ num 1 ∷ [])))
    (Some 3) ∷
    -- a check of booleans is bare: {"items":{"type":"boolean"}} on [1]
    row (pairs_on latest (obj (is "items" (obj (is "type" (str "boolean") ∷ [])) ∷ [])) (arr (num 1 ∷ [])))
    (Some 1) ∷
    -- a check of arrays is not bare: {"items":{"type":"array"}} on [1]
    row (pairs_on latest (obj (is "items" (obj (is "type" (str "array") ∷ [])) ∷ [])) (arr (num 1 ∷ [])))
    (Some 2) ∷
    -- a type before another member is not bare: {"items":{"type":"integer","writeOnly":true}} on [1]
    row (pairs_on latest (obj (is "items" (obj (is "type" (str "integer") ∷ is "writeOnly" yes ∷ [])) ∷ []))
    (arr (num 1 ∷ [])))
    (Some 2) ∷
    -- a type behind another member is not bare: {"items":{"type":"integer","title":"x"}} on [1]
    row (pairs_on latest (obj (is "items" (obj (is "type" (str "integer") ∷ is "title" (str "x") ∷ [])) ∷ []))
    (arr (num 1 ∷ [])))
    (Some 2) ∷
    -- a type behind an empty prefix is not bare: {"prefixItems":[],"items":{"type":"integer"}} on [1]
    row (pairs_on latest (obj (is "prefixItems" (arr []) ∷ is "items" (obj (is "type" (str "integer") ∷ [])) ∷ []))
    (arr (num 1 ∷ [])))
    (Some 2) ∷
    -- Draft 7 has no prefix before a bare type: {"prefixItems":[],"items":{"type":"integer"}} on [1], in Draft 7
    row (pairs_on (under Draft7)
    (obj (is "prefixItems" (arr []) ∷ is "items" (obj (is "type" (str "integer") ∷ [])) ∷ [])) (arr (num 1 ∷ [])))
    (Some 1) ∷
    []

right_bare_types_counts : Right bare_types_counts
unfolding asserted read_keyword
right_bare_types_counts = refl
