use Rattle.jskw_value.specs.Tree.{items}
use Rattle.jskw_number.specs.QuickSet.{IsBehind}
use Rattle.jskw_number.proofs.quick_set.QuickSet.first_outside.Given as goal

abbrev pub invariant-loop-index : goal.invariant-loop-index
invariant-loop-index g l = record { passed : IsBehind l.self (items (g.N.Rooted.tree l.instance)) l.start l.index }
