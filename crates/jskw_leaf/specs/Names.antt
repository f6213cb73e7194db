-- Which keywords have no subschemas.
use Rattle.std.specs.Prelude.{Bool, true, false, not}
use Rattle.jskw_report.specs.Setting.{vocabulary_of}
use Rattle.jskw_report.specs.declared.keyword.KeywordName.{KeywordName}
use Rattle.jskw_report.specs.declared.settings.Vocabulary.{Vocabulary}
use Rattle.jskw_report.specs.declared.settings.Vocabulary.TheVariants.{Applicator}

-- the vocabulary has keywords with subschemas (Core 10)
abbrev pub applies : Vocabulary → Bool
applies Applicator = true
applies _ = false

-- a keyword without subschemas
abbrev pub is_leaf : KeywordName → Bool
is_leaf w = not (applies (vocabulary_of w))
