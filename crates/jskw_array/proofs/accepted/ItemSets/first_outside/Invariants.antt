use Rattle.jskw_array.specs.Words.{in_arrays, items_cost}
use Rattle.jskw_array.proofs.PassedItems.{Passing}
use Rattle.jskw_array.proofs.accepted.ItemSets.first_outside.Given as goal

abbrev pub invariant-loop-index : goal.invariant-loop-index
invariant-loop-index g l =
    Passing (in_arrays l.self) (items_cost l.self) (g.N.Rooted.tree l.instance) l.start l.count l.index 0 l.applied
