use Rattle.std.proofs.Common.{◌-◌, ◌≤◌}
use Rattle.jskw_value.specs.Tree.{items}
use Rattle.jskw_number.specs.QuickSet.{IsBehind}
use Rattle.jskw_number.proofs.quick_set.QuickSet.behind.Given as goal

abbrev pub invariant-loop-index : goal.invariant-loop-index
invariant-loop-index g l = record {
  within : l.index ≤ l.count;
  passed : IsBehind l.self (items (g.N.Rooted.tree l.instance)) l.start l.index;
}

abbrev pub decreases-loop-index : goal.decreases-loop-index
decreases-loop-index g l = l.count - l.index

abbrev pub invariant-loop-rest : goal.invariant-loop-rest
invariant-loop-rest g l = record { passed : IsBehind l.self (items (g.N.Rooted.tree l.instance)) l.start l.rest }
