use Rattle.std.proofs.Common.{rules}
use Rattle.std.proofs.lemmas.List.Sorted.{answers_always}
use Rattle.jskw_leaf.proofs.SortedTables.{text_order_ranks}
use Rattle.jskw_leaf.proofs.enum_.hashed_text.sorted.Goals as goal

pub returns-clause-sorted : goal.returns-clause-sorted
returns-clause-sorted c =
    c.sort_unstable_by.ensures.sorted _ text_order_ranks (answers_always _ _ _ (λ f a r q called. search rules))
