-- Whether a member of a schema is checked, and why not.
use Rattle.std.specs.Prelude.{ℕ, List, Bool, true, false, not, ◌&&◌, ◌||◌, codes, bytes_eq, Option, Some, None}
use Rattle.std.specs.Prelude.{is_some, if◌then◌else◌}
use Rattle.serde_json.specs.Data.{Data, Members}
use Rattle.jskw_value.specs.Pointer.{Pointer}
use Rattle.jskw_report.specs.Read.{read_keyword, readings, min_contains, max_contains}
use Rattle.jskw_report.specs.Setting.{Setting, has_vocabulary, is_active, name_of, is_after_draft_4}
use Rattle.jskw_report.specs.Setting.{is_after_draft_7}
use Rattle.jskw_report.specs.Sibling.{is_true, is_false, has_keyword, is_handed_on}
use Rattle.jskw_report.specs.declared.keyword.KeywordName.{KeywordName}
use Rattle.jskw_report.specs.declared.keyword.KeywordName.TheVariants as keyword_name
use Rattle.jskw_report.specs.declared.settings.Vocabulary.TheVariants.{Validation}
use Rattle.jskw_unchecked.specs.Names.{is_annotation, is_not_implemented}
use Rattle.jskw_unchecked.specs.declared.reason.Reason.{Reason}
use Rattle.jskw_unchecked.specs.declared.reason.Reason.TheVariants.{NotImplemented, Unknown, Inactive, Delegated}

-- the name of a reason
abbrev pub reason_name : Reason → List ℕ
reason_name NotImplemented = codes "notImplemented"
reason_name Unknown = codes "unknown"
reason_name Inactive = codes "inactive"
reason_name Delegated = codes "delegated"

-- the keyword is there, and active
abbrev pub has_active : Setting → Members → KeywordName → Bool
has_active s ms w = has_keyword s ms w (λ d. true)

-- ---- keywords of this library, each beside the members ms

-- in Draft 4 `exclusiveMinimum` is a part of a `minimum` beside it, as `exclusiveMaximum` is of `maximum` (Draft 4
-- Validation 5.1.2, 5.1.3)
abbrev pub is_part_of_limit : KeywordName → Setting → Members → Bool
is_part_of_limit keyword_name.ExclusiveMinimum s ms =
    not (is_after_draft_4 s.draft) && has_active s ms keyword_name.Minimum
is_part_of_limit keyword_name.ExclusiveMaximum s ms =
    not (is_after_draft_4 s.draft) && has_active s ms keyword_name.Maximum
is_part_of_limit w s ms = false

-- the keyword of this value, of a schema at p, asserts something: it is read, or it makes the limit beside it exclusive
abbrev pub is_asserted : KeywordName → Setting → Pointer → Members → Data → Bool
is_asserted w s p ms d = is_some (read_keyword w s p ms (Some (readings d))) || (is_part_of_limit w s ms && is_true d)

-- the keyword of this value accepts everything, by the standard: `uniqueItems` of `false` (Validation 6.4.3), `items`
-- and `additionalItems` of `true` (Core 4.3.2), and a part of a limit that is `false` (Draft 4 Validation 5.1.2, 5.1.3)
abbrev pub asks_for_nothing : KeywordName → Setting → Members → Data → Bool
asks_for_nothing keyword_name.UniqueItems s ms d = is_active s keyword_name.UniqueItems && is_false d
asks_for_nothing keyword_name.Items s ms d = is_active s keyword_name.Items && is_true d
asks_for_nothing keyword_name.AdditionalItems s ms d = is_active s keyword_name.AdditionalItems && is_true d
asks_for_nothing w s ms d = is_part_of_limit w s ms && is_false d

-- why the keyword asserts nothing: it is left to an object layer, or else it is not active as it stands
abbrev pub idle_reason : KeywordName → Setting → Members → Reason
idle_reason keyword_name.Required s ms = if is_handed_on s ms then Delegated else Inactive
idle_reason w s ms = Inactive

-- why the keyword of this value is unchecked, if it is
abbrev pub keyword_reason : KeywordName → Setting → Pointer → Members → Data → Option Reason
keyword_reason w s p ms d =
    if is_asserted w s p ms d || asks_for_nothing w s ms d then None else Some (idle_reason w s ms)

-- ---- other names

-- `minContains` or `maxContains`
abbrev pub is_bound : List ℕ → Bool
is_bound name = bytes_eq name min_contains || bytes_eq name max_contains

-- an active `contains` reads the bounds beside it: from 2019-09 on, with the validation vocabulary (Validation 6.4.4,
-- 6.4.5)
abbrev pub are_bounds_read : Setting → Members → Bool
are_bounds_read s ms = is_after_draft_7 s.draft && has_vocabulary s Validation && has_active s ms keyword_name.Contains

-- why a member of this name is unchecked, if it is
abbrev pub name_reason : Setting → Members → List ℕ → Option Reason
name_reason s ms name = if is_bound name then (if are_bounds_read s ms then None else Some Inactive)
    else (if is_annotation s.draft name then None
    else (if is_not_implemented s.draft name then Some NotImplemented else Some Unknown))

-- ---- a member

-- why the member of this name, or keyword, and value is unchecked, if it is
abbrev pub member_reason : Option KeywordName → Setting → Pointer → Members → List ℕ → Data → Option Reason
member_reason (Some w) s p ms name d = keyword_reason w s p ms d
member_reason None s p ms name d = name_reason s ms name
