-- What a schema in bytes compiles to, under a setting that numbers name.
use Rattle.std.specs.Prelude.{◌≡◌, ◌⊎◌, ◌/◌, ◌%◌, ℕ, List, [], Bool, false, eqb, leb, length, if◌then◌else◌, Option}
use Rattle.std.specs.Prelude.{None, Some, Result, Ok, Err, option_and_then}
use Rattle.serde_json.specs.Data.{Data}
use Rattle.jskw_value.specs.Pointer.{Pointer}
use Rattle.jskw_value.specs.Tree.{Tree}
use Rattle.jskw_text.specs.Reading.{reading}
use Rattle.jskw_report.specs.Keyword.{Schema}
use Rattle.jskw_report.specs.KeywordValue.{Refusal}
use Rattle.jskw_report.specs.Read.{Reading, read}
use Rattle.jskw_report.specs.Setting.{Setting, no_vocabulary, with_object_layer, with_vocabulary}
use Rattle.jskw_report.specs.declared.settings.Draft.{Draft}
use Rattle.jskw_report.specs.declared.settings.Draft.TheVariants.{Draft4, Draft6, Draft7, Draft201909, Draft202012}
use Rattle.jskw_report.specs.declared.settings.Vocabulary.{Vocabulary}
use Rattle.jskw_report.specs.declared.settings.Vocabulary.TheVariants.{Core, Applicator, Validation}
use Rattle.jskw_report.specs.declared.settings.VocabularySet.{VocabularySet}
use Rattle.jskw_service.specs.Request.{overridden_of, setting_from, value_of}
use Rattle.jskw_c.specs.Line.{IsPositionLine, IsRefusalLine}
use Rattle.jskw_c.specs.Buffer.{IsUnchanged, WritesOrRunsOut}
use Rattle.jskw_c.specs.Status.{VALID, NOT_JSON, BAD_SCHEMA, BAD_SETTING, NO_SCHEMA, NO_MEMORY}

-- ---- the setting

abbrev pub draft_numbered : ℕ → Option Draft
draft_numbered n =
    if eqb n 4 then Some Draft4
    else (if eqb n 6 then Some Draft6
    else (if eqb n 7 then Some Draft7
    else (if eqb n 2019 then Some Draft201909
    else (if eqb n 2020 then Some Draft202012
    else None))))

abbrev pub with_if : Bool → Vocabulary → VocabularySet → VocabularySet
with_if b v vs = if b then with_vocabulary v vs else vs

-- 1 for the core, 2 for the applicator and 4 for validation, added up
abbrev pub vocabularies_in : ℕ → VocabularySet
vocabularies_in n =
    with_if (eqb (n / 4) 1) Validation
    (with_if (eqb (n / 2 % 2) 1) Applicator (with_if (eqb (n % 2) 1) Core no_vocabulary))

abbrev pub vocabularies_numbered : ℕ → Option VocabularySet
vocabularies_numbered n = if leb n 7 then Some (vocabularies_in n) else None

-- a JSON array of names, and none where there are no bytes
abbrev pub overridden_in : List ℕ → Option (List (List ℕ))
overridden_in bytes =
    if eqb (length bytes) 0 then Some [] else option_and_then (λ d. overridden_of (Some d)) (value_of bytes)

abbrev pub setting_numbered : ℕ → ℕ → List ℕ → Option Setting
setting_numbered draft vocabularies overridden =
    setting_from (draft_numbered draft) (vocabularies_numbered vocabularies) (overridden_in overridden)

-- ---- the schema, read without an object layer, or why there is none

pub data Fault : Type 0 where
  bad_setting : Fault
  -- the bytes
  not_json : List ℕ → Fault
  bad_schema : Refusal → Fault

abbrev pub compiled_as : Reading → Result Schema Fault
compiled_as (Ok s) = Ok s
compiled_as (Err e) = Err (bad_schema e)

abbrev pub compiled_from : Setting → List ℕ → Option Data → Result Schema Fault
compiled_from s bytes None = Err (not_json bytes)
compiled_from s bytes (Some d) = compiled_as (read d (with_object_layer false s) [])

abbrev pub compiled_of : Option Setting → List ℕ → Result Schema Fault
compiled_of None bytes = Err bad_setting
compiled_of (Some s) bytes = compiled_from s bytes (value_of bytes)

abbrev pub fault_status : Fault → ℕ
fault_status bad_setting = BAD_SETTING
fault_status (not_json bytes) = NOT_JSON
fault_status (bad_schema e) = BAD_SCHEMA

-- where the reader of instances finds no JSON either, the line of a place; it takes numbers that `serde_json` does
-- not, such as `1e999`, and then there is no text
abbrev pub IsPositionOf : List ℕ → Option (Result Tree Pointer) → List ℕ → Type 0
IsPositionOf bytes None text = IsPositionLine bytes text
IsPositionOf bytes (Some r) text = text ≡ []

-- a refusal has its line, and a setting no text
abbrev pub IsTextOf : Fault → List ℕ → Type 0
IsTextOf bad_setting text = text ≡ []
IsTextOf (not_json bytes) text = IsPositionOf bytes (reading bytes) text
IsTextOf (bad_schema e) text = IsRefusalLine e text

-- ---- what a compile does to the handle, which had a schema before or had none, and to the buffer

-- the handle has the schema; or memory ran out and the handle is unchanged
abbrev pub Holds : Schema → ℕ → Option Schema → Option Schema → Type 0
Holds s result before after = ((result ≡ VALID) × (after ≡ Some s)) ⊎ ((result ≡ NO_MEMORY) × (after ≡ before))

abbrev pub CompilesIntoHandle : Result Schema Fault → ℕ → Option Schema → Option Schema → List ℕ → List ℕ → ℕ → Type 0
CompilesIntoHandle (Ok s) result before after old new count = Holds s result before after × IsUnchanged old new count
CompilesIntoHandle (Err f) result before after old new count =
    (after ≡ before) × WritesOrRunsOut (IsTextOf f) result (fault_status f) old new count

-- ---- what sharing the schema of a handle does to another, which had a schema before or had none

abbrev pub Shares : Option Schema → ℕ → Option Schema → Option Schema → Type 0
Shares None result before after = (result ≡ NO_SCHEMA) × (after ≡ before)
Shares (Some s) result before after = Holds s result before after
