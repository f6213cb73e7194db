-- How `type` is read in Draft 4, and in the drafts after it.
use Rattle.std.proofs.Common.{◌≡◌, true, false, refl}
use Rattle.serde_json.specs.Data.{Data}
use Rattle.jskw_value.specs.Pointer.{Pointer}
use Rattle.jskw_report.specs.Keyword.{by_value}
use Rattle.jskw_report.specs.Read.{integers_of, keyword_by, type_rule}
use Rattle.jskw_report.specs.Setting.{is_after_draft_4}
use Rattle.jskw_report.specs.declared.settings.Draft.{Draft}
use Rattle.jskw_report.specs.declared.settings.Draft.TheVariants.{Draft4, Draft6, Draft7, Draft201909, Draft202012}

-- a draft that is not after Draft 4 reads it as Draft 4
pub type_in_draft_4 : (draft : Draft) (q : Pointer) (d : Data) → is_after_draft_4 draft ≡ false
    → keyword_by (type_rule (integers_of draft)) q d ≡ keyword_by (type_rule (integers_of Draft4)) q d
type_in_draft_4 Draft4 q d h = refl
type_in_draft_4 _ q d h = cc

-- a later one tells integers by their values
pub type_after_draft_4 : (draft : Draft) (q : Pointer) (d : Data) → is_after_draft_4 draft ≡ true
    → keyword_by (type_rule (integers_of draft)) q d ≡ keyword_by (type_rule (λ k. by_value)) q d
type_after_draft_4 Draft4 q d h = cc
type_after_draft_4 Draft6 q d h = refl
type_after_draft_4 Draft7 q d h = refl
type_after_draft_4 Draft201909 q d h = refl
type_after_draft_4 Draft202012 q d h = refl
