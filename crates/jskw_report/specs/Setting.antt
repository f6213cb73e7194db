-- What a schema is read under, and which keywords are read under it.
-- Sections are those of Draft 2020-12, unless a draft is named.
use Rattle.std.specs.Prelude.{ℕ, List, [], ◌∷◌, Bool, true, false, not, ◌&&◌, ◌||◌, codes, bytes_eq, Option, Some, None}
use Rattle.std.specs.List.{list_any}
use Rattle.jskw_value.specs.Pointer.{Pointer}
use Rattle.jskw_value.specs.declared.types.JsonType.{JsonType}
use Rattle.jskw_value.specs.declared.types.JsonType.TheVariants.{Array, Number, Object}
use Rattle.jskw_report.specs.declared.keyword.KeywordName.{KeywordName}
use Rattle.jskw_report.specs.declared.keyword.KeywordName.TheVariants.{TypeKeyword, MinItems, MaxItems, Items}
use Rattle.jskw_report.specs.declared.keyword.KeywordName.TheVariants.{PrefixItems, AdditionalItems, Contains}
use Rattle.jskw_report.specs.declared.keyword.KeywordName.TheVariants.{UniqueItems, Const, Enum, Minimum, Maximum}
use Rattle.jskw_report.specs.declared.keyword.KeywordName.TheVariants.{ExclusiveMinimum, ExclusiveMaximum, MultipleOf}
use Rattle.jskw_report.specs.declared.keyword.KeywordName.TheVariants.{MinProperties, MaxProperties, Required}
use Rattle.jskw_report.specs.declared.settings.Draft.{Draft}
use Rattle.jskw_report.specs.declared.settings.Draft.TheVariants.{Draft4, Draft201909, Draft202012}
use Rattle.jskw_report.specs.declared.settings.Vocabulary.{Vocabulary}
use Rattle.jskw_report.specs.declared.settings.Vocabulary.TheVariants.{Core, Applicator, Validation}
use Rattle.jskw_report.specs.declared.settings.VocabularySet.{VocabularySet}

-- the draft, the vocabularies in use (Core 8.1.2), the names of the overridden keywords, which other code asserts, and
-- whether there is an object layer: other code that asserts the keywords of objects, to which a `required` may be left
pub record Setting : Type 0 where
  pub draft : Draft
  pub vocabularies : VocabularySet
  pub overridden : List (List ℕ)
  pub object_layer : Bool

-- the setting with an object layer, or without one
abbrev pub with_object_layer : Bool → Setting → Setting
with_object_layer b s = record s { object_layer = b }

-- where a schema or a keyword is read: the setting, and the keyword location (Core 12.3.1)
pub record CompilePoint : Type 0 where
  pub setting : Setting
  pub location : Pointer

-- ---- drafts

-- Draft 6 or later
abbrev pub is_after_draft_4 : Draft → Bool
is_after_draft_4 Draft4 = false
is_after_draft_4 _ = true

-- Draft 2019-09 or later, which have vocabularies
abbrev pub is_after_draft_7 : Draft → Bool
is_after_draft_7 Draft201909 = true
is_after_draft_7 Draft202012 = true
is_after_draft_7 _ = false

-- Draft 2020-12
abbrev pub is_2020_12 : Draft → Bool
is_2020_12 Draft202012 = true
is_2020_12 _ = false

-- ---- vocabularies (Core 8.1)

-- no vocabulary
abbrev pub no_vocabulary : VocabularySet
no_vocabulary = record { core = false; applicator = false; validation = false }

-- every vocabulary
abbrev pub all_vocabularies : VocabularySet
all_vocabularies = record { core = true; applicator = true; validation = true }

-- the set with one more
abbrev pub with_vocabulary : Vocabulary → VocabularySet → VocabularySet
with_vocabulary Core vs = record vs { core = true }
with_vocabulary Applicator vs = record vs { applicator = true }
with_vocabulary Validation vs = record vs { validation = true }

-- the vocabulary is one of the set
abbrev pub has : VocabularySet → Vocabulary → Bool
has vs Core = vs.core
has vs Applicator = vs.applicator
has vs Validation = vs.validation

-- the vocabulary is present: one of the set, or any in Drafts 4, 6 and 7, where no keyword waits for a vocabulary
abbrev pub has_vocabulary : Setting → Vocabulary → Bool
has_vocabulary s v = not (is_after_draft_7 s.draft) || has s.vocabularies v

-- ---- keywords

-- every keyword, in the order in which a schema is read
abbrev pub keywords : List KeywordName
keywords =
    TypeKeyword ∷ MinItems ∷ MaxItems ∷ Items ∷ PrefixItems ∷ AdditionalItems ∷ Contains ∷ UniqueItems ∷ Const ∷ Enum
    ∷ Minimum ∷ Maximum ∷ ExclusiveMinimum ∷ ExclusiveMaximum ∷ MultipleOf ∷ MinProperties ∷ MaxProperties ∷ Required
    ∷ []

-- every draft
abbrev pub every_draft : Draft → Bool
every_draft d = true

-- what is known of a keyword by its name: the vocabulary and the drafts that define it, and the type of the instances
-- that it concerns, if it isn't all of them (Validation 6.1): numbers (Validation 6.2), arrays (Validation 6.4, Core
-- 10.3.1), or objects (Validation 6.5)
pub record Facts : Type 0 where
  pub name : List ℕ
  pub vocabulary : Vocabulary
  pub drafts : Draft → Bool
  pub subject : Option JsonType

-- a keyword of structural validation (Validation 6)
abbrev pub validates : List ℕ → (Draft → Bool) → Option JsonType → Facts
validates name drafts subject =
    record { name = name; vocabulary = Validation; drafts = drafts; subject = subject }

-- a keyword that applies subschemas, all of them to items (Core 10.3.1)
abbrev pub applies_to_items : List ℕ → (Draft → Bool) → Facts
applies_to_items name drafts =
    record { name = name; vocabulary = Applicator; drafts = drafts; subject = Some Array }

-- the facts of each keyword
abbrev pub facts : KeywordName → Facts
facts TypeKeyword = validates (codes "type") every_draft None
facts MinItems = validates (codes "minItems") every_draft (Some Array)
facts MaxItems = validates (codes "maxItems") every_draft (Some Array)
facts Items = applies_to_items (codes "items") every_draft
facts PrefixItems = applies_to_items (codes "prefixItems") is_2020_12
facts AdditionalItems = applies_to_items (codes "additionalItems") (λ d. not (is_2020_12 d))
facts Contains = applies_to_items (codes "contains") is_after_draft_4
facts UniqueItems = validates (codes "uniqueItems") every_draft (Some Array)
facts Const = validates (codes "const") is_after_draft_4 None
facts Enum = validates (codes "enum") every_draft None
facts Minimum = validates (codes "minimum") every_draft (Some Number)
facts Maximum = validates (codes "maximum") every_draft (Some Number)
facts ExclusiveMinimum = validates (codes "exclusiveMinimum") is_after_draft_4 (Some Number)
facts ExclusiveMaximum = validates (codes "exclusiveMaximum") is_after_draft_4 (Some Number)
facts MultipleOf = validates (codes "multipleOf") every_draft (Some Number)
facts MinProperties = validates (codes "minProperties") every_draft (Some Object)
facts MaxProperties = validates (codes "maxProperties") every_draft (Some Object)
facts Required = validates (codes "required") every_draft (Some Object)

-- the keyword's name
abbrev pub name_of : KeywordName → List ℕ
name_of w = (facts w).name

-- the vocabulary that defines the keyword
abbrev pub vocabulary_of : KeywordName → Vocabulary
vocabulary_of w = (facts w).vocabulary

-- the draft defines the keyword
abbrev pub is_in_draft : Draft → KeywordName → Bool
is_in_draft d w = (facts w).drafts d

-- the type of the instances that the keyword concerns, if it isn't all of them
abbrev pub concerns : KeywordName → Option JsonType
concerns w = (facts w).subject

-- the keyword's name is overridden
abbrev pub is_overridden : Setting → List ℕ → Bool
is_overridden s name = list_any (bytes_eq name) s.overridden

-- the keyword is read: the draft defines it, its vocabulary is present, and its name isn't overridden
abbrev pub is_active : Setting → KeywordName → Bool
is_active s w = is_in_draft s.draft w && has_vocabulary s (vocabulary_of w) && not (is_overridden s (name_of w))
