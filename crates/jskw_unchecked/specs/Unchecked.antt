-- Which members of a schema, and of the subschemas that keywords of this library apply, are unchecked.
use Rattle.std.specs.Prelude.{ℕ, suc, List, [], ◌∷◌, ◌++◌, Bool, false, Option, Some, None, if◌then◌else◌}
use Rattle.serde_json.specs.Data.{Data, array, object, Items, no_items, item, Members, no_members, member}
use Rattle.jskw_value.specs.Pointer.{Pointer, member_location, item_location}
use Rattle.jskw_report.specs.Found.{keyword_named}
use Rattle.jskw_report.specs.Setting.{Setting, vocabulary_of}
use Rattle.jskw_report.specs.declared.keyword.KeywordName.{KeywordName}
use Rattle.jskw_leaf.specs.Names.{applies}
use Rattle.jskw_unchecked.specs.Reason.{member_reason}
use Rattle.jskw_unchecked.specs.declared.reason.Reason.{Reason}
use Rattle.jskw_unchecked.specs.declared.member.UncheckedMember.{UncheckedMember}

-- a keyword of this library that applies subschemas
abbrev pub has_subschemas : Option KeywordName → Bool
has_subschemas (Some w) = applies (vocabulary_of w)
has_subschemas None = false

-- the member at q, if there is a reason why it is unchecked; what stands below it is not looked at
abbrev pub listed : Pointer → Option Reason → List UncheckedMember → List UncheckedMember
listed q (Some r) below = record { location = q; reason = r } ∷ []
listed q None below = below

-- the member of the name k and the value d, among the members of an object at p, if it is unchecked; else those below
-- it, where its keyword applies subschemas
abbrev pub unchecked_member : List ℕ → Data → Members → Setting → Pointer → List UncheckedMember → List UncheckedMember
unchecked_member k d ms s p below =
    listed (member_location p k) (member_reason (keyword_named k) s p ms k d)
    (if has_subschemas (keyword_named k) then below else [])

abbrev mutual
  -- the unchecked members of the schema d at p, in the order in which they stand; a boolean has none
  pub unchecked : Data → Setting → Pointer → List UncheckedMember
  unchecked (object ms) s p = unchecked_among ms ms s p
  unchecked d s p = []

  -- those of some members of an object at p, beside all of its members
  pub unchecked_among : Members → Members → Setting → Pointer → List UncheckedMember
  unchecked_among no_members all s p = []
  unchecked_among (member k d ms) all s p =
      unchecked_member k d all s p (unchecked_in d s (member_location p k)) ++ unchecked_among ms all s p

  -- those in the value d at q of a keyword that applies subschemas: an array of schemas, or a schema
  pub unchecked_in : Data → Setting → Pointer → List UncheckedMember
  unchecked_in (array ds) s q = unchecked_each ds s q 0
  unchecked_in (object ms) s q = unchecked_among ms ms s q
  unchecked_in d s q = []

  -- those of the items from index i on, each as a schema
  pub unchecked_each : Items → Setting → Pointer → ℕ → List UncheckedMember
  unchecked_each no_items s q i = []
  unchecked_each (item d ds) s q i = unchecked d s (item_location q i) ++ unchecked_each ds s q (suc i)
