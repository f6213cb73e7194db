-- Which keywords are overridden, as a mark for each keyword.
use denote.Enum.Declared.{tag_of}
use Rattle.std.specs.Prelude.{ℕ, List, Bool, bytes_eq, map}
use Rattle.std.specs.List.{list_any}
use Rattle.jskw_report.specs.Setting.{keywords, name_of}
use Rattle.jskw_report.specs.contracts.keyword.KeywordName as keyword_name
use Rattle.jskw_report.specs.declared.keyword.KeywordName.{KeywordName}

-- the place of the keyword among the variants of `KeywordName`
abbrev pub keyword_index : KeywordName → ℕ
keyword_index w = tag_of keyword_name.the_type w

-- for each keyword, whether its name is one of these
unfoldable pub overridden_marks : List (List ℕ) → List Bool
overridden_marks names = map (λ w. list_any (bytes_eq (name_of w)) names) keywords
