use Rattle.std.proofs.Common.{◌≡◌, ◌+◌, ◌*◌, ◌<◌, length}
use Rattle.jskw_value.specs.Tree.{items}
use Rattle.jskw_value.specs.Walk.{left}
use Rattle.jskw_value.proofs.Depth.{depth, height}
use Rattle.jskw_value.proofs.meter.+visit.Given as goal

abbrev pub decreases-visit : goal.decreases-visit
decreases-visit g l = 2 * depth (g.N.Rooted.tree l.node.now) + 1

abbrev pub decreases-visit_items : goal.decreases-visit_items
decreases-visit_items g l = 2 * depth (g.N.Rooted.tree l.array.now)

abbrev pub decreases-visit_members : goal.decreases-visit_members
decreases-visit_members g l = 2 * depth (g.N.Rooted.tree l.object.now)

abbrev pub invariant-visit_items-loop-i : goal.invariant-visit_items-loop-i
invariant-visit_items-loop-i g l = l.i-end ≡ length (items (g.N.Rooted.tree l.array))

abbrev pub invariant-visit_members-loop-name : goal.invariant-visit_members-loop-name
invariant-visit_members-loop-name g l = height (left g.N.Rooted.tree l.name-iterator) < depth (g.N.Rooted.tree l.object)
