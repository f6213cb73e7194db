use Rattle.jskw_value.specs.Tree.{items}
use Rattle.jskw_value.specs.Unique.{IsNewAt}
use Rattle.jskw_value.proofs.unique_items.occurs_between.Given as goal

abbrev pub invariant-loop-j : goal.invariant-loop-j
invariant-loop-j g l = IsNewAt l.start l.j l.index (items (g.N.Rooted.tree l.array))
