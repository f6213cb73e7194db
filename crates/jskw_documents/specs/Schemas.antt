-- The schema that a text is, if it is one that documents may be checked against.
use Rattle.std.specs.Prelude.{◌≡◌, ◌||◌, ℕ, List, [], Bool, false, bytes_eq, codes, if◌then◌else◌, Option}
use Rattle.std.specs.Prelude.{Some, None, Result, Ok, Err, map, string_bytes, option_and_then}
use Rattle.serde_json.specs.Data.{Data, object, string}
use Rattle.serde_json.specs.Find.{get_member}
use Rattle.jskw_report.specs.Fail.{is_empty}
use Rattle.jskw_report.specs.Keyword.{Schema}
use Rattle.jskw_report.specs.Read.{Reading, read}
use Rattle.jskw_report.specs.Setting.{Setting}
use Rattle.jskw_report.specs.declared.settings.Draft.{Draft}
use Rattle.jskw_report.specs.declared.settings.Draft.TheVariants.{Draft4, Draft6, Draft7, Draft201909, Draft202012}
use Rattle.jskw_report.specs.declared.settings.VocabularySet.{VocabularySet}
use Rattle.jskw_service.specs.Request.{value_of}
use Rattle.jskw_unchecked.specs.Unchecked.{unchecked}
use Rattle.jskw_unchecked.specs.declared.member.UncheckedMember.{UncheckedMember}
use Rattle.jskw_documents.specs.declared.schema.SchemaOptions.{SchemaOptions}

abbrev pub draft_of_meta_schema : List ℕ → Option Draft
draft_of_meta_schema s =
    if bytes_eq s (codes "http://json-schema.org/draft-04/schema") then Some Draft4
    else (if bytes_eq s (codes "http://json-schema.org/draft-04/schema#") then Some Draft4
    else (if bytes_eq s (codes "http://json-schema.org/draft-06/schema") then Some Draft6
    else (if bytes_eq s (codes "http://json-schema.org/draft-06/schema#") then Some Draft6
    else (if bytes_eq s (codes "http://json-schema.org/draft-07/schema") then Some Draft7
    else (if bytes_eq s (codes "http://json-schema.org/draft-07/schema#") then Some Draft7
    else (if bytes_eq s (codes "https://json-schema.org/draft/2019-09/schema") then Some Draft201909
    else (if bytes_eq s (codes "https://json-schema.org/draft/2019-09/schema#") then Some Draft201909
    else (if bytes_eq s (codes "https://json-schema.org/draft/2020-12/schema") then Some Draft202012
    else (if bytes_eq s (codes "https://json-schema.org/draft/2020-12/schema#") then Some Draft202012
    else None)))))))))

-- the draft of a value of `$schema`, and 2020-12 where there is none
abbrev pub draft_of_value : Option Data → Option Draft
draft_of_value None = Some Draft202012
draft_of_value (Some (string s)) = draft_of_meta_schema s
draft_of_value (Some d) = None

-- the draft that a schema names
abbrev pub draft_of_schema : Data → Option Draft
draft_of_schema (object ms) = draft_of_value (get_member (codes "$schema") ms)
draft_of_schema d = Some Draft202012

-- the draft that is asked for, or that the schema names
abbrev pub draft_chosen : Option Draft → Data → Option Draft
draft_chosen (Some draft) d = Some draft
draft_chosen None d = draft_of_schema d

-- how a schema is read: under the draft that is asked for, or that it names, with these vocabularies, without asserting
-- the keywords of these names, and whether something of it may be unchecked
pub record HowRead : Type 0 where
  pub draft : Option Draft
  pub vocabularies : VocabularySet
  pub overridden : List (List ℕ)
  pub allow_unchecked : Bool

abbrev pub how_read : SchemaOptions → HowRead
how_read o =
    record {
      draft = o.draft;
      vocabularies = o.vocabularies;
      overridden = map string_bytes o.overridden.items;
      allow_unchecked = o.allow_unchecked;
    }

-- there is no object layer
abbrev pub setting_chosen : HowRead → Draft → Setting
setting_chosen how draft =
    record { draft = draft; vocabularies = how.vocabularies; overridden = how.overridden; object_layer = false }

-- a schema that compiles, unless something of it is not checked and that is not allowed
abbrev pub covered_schema : Bool → List UncheckedMember → Reading → Option Schema
covered_schema allowed members (Err e) = None
covered_schema allowed members (Ok s) = if allowed || is_empty members then Some s else None

abbrev pub schema_under : Bool → Setting → Data → Option Schema
schema_under allowed setting d = covered_schema allowed (unchecked d setting []) (read d setting [])

abbrev pub schema_of_value : HowRead → Data → Option Schema
schema_of_value how d =
    option_and_then (λ draft. schema_under how.allow_unchecked (setting_chosen how draft) d) (draft_chosen how.draft d)

-- the schema of a text; nothing, if it is none that documents may be checked against
abbrev pub schema_given : HowRead → List ℕ → Option Schema
schema_given how bytes = option_and_then (schema_of_value how) (value_of bytes)

-- what was made is that schema, or nothing was made and there is none
abbrev pub IsSchemaGiven : {A : Type 0} → Result Schema A → Option Schema → Type 0
IsSchemaGiven (Ok s) given = given ≡ Some s
IsSchemaGiven (Err lines) given = given ≡ None
