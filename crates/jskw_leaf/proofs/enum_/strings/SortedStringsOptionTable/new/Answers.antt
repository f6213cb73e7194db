use Rattle.std.proofs.Common.{subst}
use Rattle.std.specs.List.Sorted.{IsPermutation}
use Rattle.jskw_leaf.proofs.Options.{are_texts}
use Rattle.jskw_leaf.proofs.enum_.strings.SortedStringsOptionTable.new.Goals as goal

pub returns : goal.returns
returns c =
    are_texts _ _ c.requires (subst (λ texts. IsPermutation texts c.sorted.result.items)
    c.in_ok-texts_of.ensures c.sorted.ensures.same)
