-- What the input asks for: a schema, an instance, and a setting.
use Rattle.std.specs.Prelude.{ℕ, List, [], ◌∷◌, true, codes, bytes_eq, Option, Some, None, if◌then◌else◌}
use Rattle.std.specs.Prelude.{option_and_then, option_map}
use Rattle.std.specs.Str.{is_utf8}
use Rattle.serde_json.specs.Data.{Data, string, array, object, Items, no_items, item, Members}
use Rattle.serde_json.specs.Find.{get_member}
use Rattle.serde_json.specs.Read as text
use Rattle.jskw_report.specs.Setting.{Setting, no_vocabulary, all_vocabularies, with_vocabulary}
use Rattle.jskw_report.specs.declared.settings.Draft.{Draft}
use Rattle.jskw_report.specs.declared.settings.Draft.TheVariants.{Draft4, Draft6, Draft7, Draft201909, Draft202012}
use Rattle.jskw_report.specs.declared.settings.Vocabulary.{Vocabulary}
use Rattle.jskw_report.specs.declared.settings.Vocabulary.TheVariants.{Core, Applicator, Validation}
use Rattle.jskw_report.specs.declared.settings.VocabularySet.{VocabularySet}

pub record Request : Type 0 where
  pub schema : Data
  pub instance : Data
  pub setting : Setting

abbrev pub draft_named : List ℕ → Option Draft
draft_named s =
    if bytes_eq s (codes "4") then Some Draft4
    else (if bytes_eq s (codes "6") then Some Draft6
    else (if bytes_eq s (codes "7") then Some Draft7
    else (if bytes_eq s (codes "2019-09") then Some Draft201909
    else (if bytes_eq s (codes "2020-12") then Some Draft202012
    else None))))

-- Draft 2020-12 where nothing is said
abbrev pub draft_of : Option Data → Option Draft
draft_of None = Some Draft202012
draft_of (Some (string s)) = draft_named s
draft_of (Some d) = None

abbrev pub vocabulary_named : List ℕ → Option Vocabulary
vocabulary_named s =
    if bytes_eq s (codes "core") then Some Core
    else (if bytes_eq s (codes "applicator") then Some Applicator
    else (if bytes_eq s (codes "validation") then Some Validation
    else None))

abbrev pub vocabulary_from : Data → Option Vocabulary
vocabulary_from (string s) = vocabulary_named s
vocabulary_from d = None

-- each item names a vocabulary
abbrev pub vocabulary_set : Items → Option VocabularySet
vocabulary_set no_items = Some no_vocabulary
vocabulary_set (item d ds) =
    option_and_then (λ v. option_map (with_vocabulary v) (vocabulary_set ds)) (vocabulary_from d)

-- all three where nothing is said
abbrev pub vocabularies_of : Option Data → Option VocabularySet
vocabularies_of None = Some all_vocabularies
vocabularies_of (Some (array ds)) = vocabulary_set ds
vocabularies_of (Some d) = None

abbrev pub text_of : Data → Option (List ℕ)
text_of (string s) = Some s
text_of d = None

-- each item is a text
abbrev pub texts_of : Items → Option (List (List ℕ))
texts_of no_items = Some []
texts_of (item d ds) = option_and_then (λ s. option_map (λ ss. s ∷ ss) (texts_of ds)) (text_of d)

-- none where nothing is said
abbrev pub overridden_of : Option Data → Option (List (List ℕ))
overridden_of None = Some []
overridden_of (Some (array ds)) = texts_of ds
overridden_of (Some d) = None

abbrev pub setting_from : Option Draft → Option VocabularySet → Option (List (List ℕ)) → Option Setting
setting_from (Some d) (Some v) (Some names) =
    Some (record { draft = d; vocabularies = v; overridden = names; object_layer = true })
setting_from _ _ _ = None

abbrev pub setting_of : Members → Option Setting
setting_of ms =
    setting_from (draft_of (get_member (codes "draft") ms)) (vocabularies_of (get_member (codes "vocabularies") ms))
    (overridden_of (get_member (codes "overridden") ms))

abbrev pub request_from : Option Data → Option Data → Option Setting → Option Request
request_from (Some s) (Some i) (Some setting) = Some (record { schema = s; instance = i; setting = setting })
request_from _ _ _ = None

-- an object with the members `schema` and `instance`; `draft`, `vocabularies` and `overridden` may be there, other
-- members say nothing
abbrev pub request_of : Data → Option Request
request_of (object ms) =
    request_from (get_member (codes "schema") ms) (get_member (codes "instance") ms) (setting_of ms)
request_of d = None

-- what `serde_json` reads of bytes, which may be no text
abbrev pub value_of : List ℕ → Option Data
value_of bytes = if is_utf8 bytes then text.read bytes else None

abbrev pub request_in : List ℕ → Option Request
request_in bytes = option_and_then request_of (value_of bytes)
