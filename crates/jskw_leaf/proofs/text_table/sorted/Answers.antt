use Rattle.std.proofs.Common.{string_bytes}
use Rattle.std.proofs.lemmas.List.Sorted.{IsPermutation-map}
use Rattle.jskw_leaf.proofs.text_table.sorted.Goals as goal

pub returns-clause-same : goal.returns-clause-same
returns-clause-same c = IsPermutation-map string_bytes _ _ c.sort_unstable.ensures.permutation
