-- The values of the keywords of a schema, each at the place of its keyword.
use Rattle.std.specs.Prelude.{◌≡◌, ℕ, List, Option, None, bytes_eq, find, get_or, map, option_map, refl}
use Rattle.std.specs.Borrow.{Bor}
use Rattle.std.specs.Coded.{Coded, code_by}
use Rattle.serde_json.specs.Data.{Data, object, Members, no_members}
use Rattle.serde_json.specs.Find.{get_member}
use Rattle.serde_json.specs.View.{view}
use Rattle.serde_json.specs.declared.value.Value.{Value}
use Rattle.jskw_report.specs.DataCode.{data_code}
use Rattle.jskw_report.specs.Overridden.{keyword_index}
use Rattle.jskw_report.specs.Setting.{keywords, name_of}
use Rattle.jskw_report.specs.declared.keyword.KeywordName.{KeywordName}

-- the keyword of a name, if it is the name of one
abbrev pub keyword_named : List ℕ → Option KeywordName
keyword_named name = find (λ w. bytes_eq (name_of w) name) keywords

-- what the references lead to
abbrev pub values_in : List (Option (Bor Value)) → List (Option Data)
values_in vs = map (option_map (λ v. view v.now)) vs

-- at the place of each keyword is the member of its name, if there is one
abbrev pub AreValues : List (Option Data) → Members → Type 0
AreValues found ms = (w : KeywordName) → get_or found (keyword_index w) None ≡ get_member (name_of w) ms

-- ---- the code by which a proof tells members apart: that of the object that has them

abbrev members_in : Data → Members
members_in (object ms) = ms
members_in _ = no_members

abbrev pub members_code : Coded Members
members_code = code_by Data data_code object members_in (λ ms. refl)
