-- The names of keywords that this library has not, by draft: those that assert or apply something, and annotations.
-- A draft's keywords are those of its documents and of its meta-schema.
use Rattle.std.specs.Prelude.{ℕ, List, [], ◌∷◌, Bool, true, false, ◌&&◌, ◌||◌, codes, bytes_eq, if◌then◌else◌}
use Rattle.std.specs.List.{list_any}
use Rattle.jskw_report.specs.Setting.{is_after_draft_4, is_after_draft_7, is_2020_12}
use Rattle.jskw_report.specs.declared.settings.Draft.{Draft}
use Rattle.jskw_report.specs.declared.settings.Draft.TheVariants.{Draft7}

-- the name is one of these
abbrev pub is_one_of : List ℕ → List (List ℕ) → Bool
is_one_of name names = list_any (bytes_eq name) names

-- Draft 7
abbrev pub is_draft_7 : Draft → Bool
is_draft_7 Draft7 = true
is_draft_7 _ = false

-- Draft 7 or later
abbrev pub is_after_draft_6 : Draft → Bool
is_after_draft_6 d = is_draft_7 d || is_after_draft_7 d

-- ---- keywords that assert or apply something

-- references (Core 8.2.3). The meta-schema of 2020-12 keeps `$recursiveRef`
abbrev pub is_reference : Draft → List ℕ → Bool
is_reference d name = is_one_of name (codes "$ref" ∷ [])
    || (is_after_draft_7 d && is_one_of name (codes "$recursiveRef" ∷ []))
    || (is_2020_12 d && is_one_of name (codes "$dynamicRef" ∷ []))

-- keywords that apply subschemas to the instance itself (Core 10.2.1, 10.2.2.1 to 10.2.2.3)
abbrev pub is_in_place : Draft → List ℕ → Bool
is_in_place d name = is_one_of name (codes "allOf" ∷ codes "anyOf" ∷ codes "oneOf" ∷ codes "not" ∷ [])
    || (is_after_draft_6 d && is_one_of name (codes "if" ∷ codes "then" ∷ codes "else" ∷ []))

-- keywords of members (Core 10.3.2, 10.2.2.4, 11; Validation 6.5.4), and `unevaluatedItems`. The meta-schemas of
-- 2019-09 and 2020-12 keep `dependencies` (Draft 7 Validation 6.5.7)
abbrev pub is_of_members : Draft → List ℕ → Bool
is_of_members d name =
    is_one_of name
    (codes "properties" ∷ codes "patternProperties" ∷ codes "additionalProperties" ∷ codes "dependencies" ∷ [])
    || (is_after_draft_4 d && is_one_of name (codes "propertyNames" ∷ []))
    || (is_after_draft_7 d
    && is_one_of name (codes "dependentSchemas" ∷ codes "dependentRequired" ∷ codes "unevaluatedItems"
    ∷ codes "unevaluatedProperties" ∷ []))

-- keywords of strings (Validation 6.3, 7). Those on their content are assertions in Draft 7 alone (Draft 7 Validation
-- 8.2)
abbrev pub is_of_strings : Draft → List ℕ → Bool
is_of_strings d name = is_one_of name (codes "maxLength" ∷ codes "minLength" ∷ codes "pattern" ∷ codes "format" ∷ [])
    || (is_draft_7 d && is_one_of name (codes "contentMediaType" ∷ codes "contentEncoding" ∷ []))

-- the draft has a keyword of this name that asserts or applies something, and this library has not
abbrev pub is_not_implemented : Draft → List ℕ → Bool
is_not_implemented d name = is_reference d name || is_in_place d name || is_of_members d name || is_of_strings d name

-- ---- annotations, and other keywords that assert nothing by themselves

-- names of schemas (Core 8.2.1, 8.2.2; Draft 4 Core 7.2). The meta-schema of 2020-12 keeps `$recursiveAnchor`
abbrev pub is_identifier : Draft → List ℕ → Bool
is_identifier d name = is_one_of name (if is_after_draft_4 d then codes "$id" ∷ [] else codes "id" ∷ [])
    || (is_after_draft_7 d && is_one_of name (codes "$anchor" ∷ codes "$recursiveAnchor" ∷ []))
    || (is_2020_12 d && is_one_of name (codes "$dynamicAnchor" ∷ []))

-- what a schema is written in, its definitions and comments (Core 8.1, 8.2.4, 8.3). The meta-schemas of 2019-09 and
-- 2020-12 keep `definitions` (Draft 7 Validation 9)
abbrev pub is_of_core : Draft → List ℕ → Bool
is_of_core d name = is_one_of name (codes "$schema" ∷ codes "definitions" ∷ [])
    || (is_after_draft_6 d && is_one_of name (codes "$comment" ∷ []))
    || (is_after_draft_7 d && is_one_of name (codes "$vocabulary" ∷ codes "$defs" ∷ []))

-- what a schema says of its instances without asserting it (Validation 8, 9)
abbrev pub is_of_metadata : Draft → List ℕ → Bool
is_of_metadata d name = is_one_of name (codes "title" ∷ codes "description" ∷ codes "default" ∷ [])
    || (is_after_draft_4 d && is_one_of name (codes "examples" ∷ []))
    || (is_after_draft_6 d && is_one_of name (codes "readOnly" ∷ codes "writeOnly" ∷ []))
    || (is_after_draft_7 d && is_one_of name (codes "deprecated" ∷ codes "contentMediaType" ∷ codes "contentEncoding"
    ∷ codes "contentSchema" ∷ []))

-- the draft has a keyword of this name that asserts nothing by itself (Core 7.7)
abbrev pub is_annotation : Draft → List ℕ → Bool
is_annotation d name = is_identifier d name || is_of_core d name || is_of_metadata d name
