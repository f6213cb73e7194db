use Rattle.std.proofs.Common.{◌≡◌, length}
use Rattle.jskw_value.specs.Tree.{items}
use Rattle.jskw_value.proofs.seed.seed_of_items.Given as goal

abbrev pub invariant-loop-i : goal.invariant-loop-i
invariant-loop-i g l = l.count ≡ length (items (g.N.Rooted.tree l.array))
