use Rattle.std.proofs.Common.{subst}
use Rattle.std.specs.List.Sorted.{IsPermutation}
use Rattle.jskw_leaf.proofs.Options.{are_integers}
use Rattle.jskw_leaf.proofs.enum_.integers.SortedIntegersOptionTable.new.Goals as goal

pub returns : goal.returns
returns c =
    are_integers _ _ c.requires (subst (λ zs. IsPermutation zs c.sort_unstable.new.self.items) c.in_ok-integers.ensures
    c.sort_unstable.ensures.permutation)
