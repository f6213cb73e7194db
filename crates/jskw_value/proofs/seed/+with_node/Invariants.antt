use Rattle.std.proofs.Common.{◌≡◌, ◌<◌, length}
use Rattle.jskw_value.specs.Tree.{items}
use Rattle.jskw_value.specs.Walk.{left}
use Rattle.jskw_value.proofs.Depth.{depth, height}
use Rattle.jskw_value.proofs.seed.+with_node.Given as goal

abbrev pub decreases-with_node : goal.decreases-with_node
decreases-with_node g l = depth (g.N.Rooted.tree l.node.now)

abbrev pub invariant-loop-i : goal.invariant-loop-i
invariant-loop-i g l = l.count ≡ length (items (g.N.Rooted.tree l.node))

abbrev pub invariant-loop-name : goal.invariant-loop-name
invariant-loop-name g l = height (left g.N.Rooted.tree l.name-iterator) < depth (g.N.Rooted.tree l.node)
