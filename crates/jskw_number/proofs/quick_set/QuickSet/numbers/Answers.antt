use Rattle.std.proofs.Common.{◌∙◌, sym}
use Rattle.std.proofs.lemmas.Bool.{true≢false}
use Rattle.jskw_number.proofs.QuickSets.{no_fraction}
use Rattle.jskw_number.proofs.quick_set.QuickSet.numbers.Goals as goal

pub returns-else-self-type_index-clause-fractions : goal.returns-else-self-type_index-clause-fractions
returns-else-self-type_index-clause-fractions c n f h =
    absurd (true≢false (sym h ∙ no_fraction c.none.result c.none.ensures.enclosed n))
