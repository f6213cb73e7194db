-- Bounds on sizes, by what is counted and by the direction.
use Rattle.std.specs.Prelude.{ℕ, nat_le, Bool, true, false}
use Rattle.jskw_report.specs.Keyword.{Size, MinItems, MaxItems, MinProperties, MaxProperties}
use Rattle.jskw_report.specs.declared.keyword.KeywordName.{KeywordName}
use Rattle.jskw_report.specs.declared.keyword.KeywordName.TheVariants as keyword_name

-- a bound on the items of an array, or on the members of an object: a lower bound, or an upper one
abbrev pub size_of : Bool → Bool → Size
size_of true true = MinItems
size_of true false = MaxItems
size_of false true = MinProperties
size_of false false = MaxProperties

-- its keyword
abbrev pub size_keyword_name : Size → KeywordName
size_keyword_name MinItems = keyword_name.MinItems
size_keyword_name MaxItems = keyword_name.MaxItems
size_keyword_name MinProperties = keyword_name.MinProperties
size_keyword_name MaxProperties = keyword_name.MaxProperties

-- the count is at least the limit, or at most
abbrev pub is_within : Bool → ℕ → ℕ → Bool
is_within true limit count = nat_le limit count
is_within false limit count = nat_le count limit
