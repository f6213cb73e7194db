-- The keywords of this crate, by name.
use Rattle.std.specs.Prelude.{Bool, true, false}
use Rattle.jskw_report.specs.declared.keyword.KeywordName.{KeywordName}
use Rattle.jskw_report.specs.declared.keyword.KeywordName.TheVariants.{MinItems, MaxItems, Minimum, Maximum}
use Rattle.jskw_report.specs.declared.keyword.KeywordName.TheVariants.{ExclusiveMinimum, ExclusiveMaximum, MultipleOf}
use Rattle.jskw_report.specs.declared.keyword.KeywordName.TheVariants.{MinProperties, MaxProperties}

-- of numbers and sizes
abbrev pub is_of_numbers : KeywordName → Bool
is_of_numbers MinItems = true
is_of_numbers MaxItems = true
is_of_numbers Minimum = true
is_of_numbers Maximum = true
is_of_numbers ExclusiveMinimum = true
is_of_numbers ExclusiveMaximum = true
is_of_numbers MultipleOf = true
is_of_numbers MinProperties = true
is_of_numbers MaxProperties = true
is_of_numbers _ = false
