use Rattle.std.proofs.Common.{◌≡◌, ◌<◌, length, string_bytes}
use Rattle.jskw_value.specs.Text.{Extends}
use Rattle.jskw_value.specs.Tree.{items}
use Rattle.jskw_value.specs.Walk.{left}
use Rattle.jskw_value.proofs.Depth.{depth, height}
use Rattle.jskw_value.proofs.json_text.+write_node.Given as goal

abbrev pub decreases-write_node : goal.decreases-write_node
decreases-write_node g l = depth (g.N.Rooted.tree l.node.now)

abbrev pub invariant-loop-i : goal.invariant-loop-i
invariant-loop-i g l =
    (l.i-end ≡ length (items (g.N.Rooted.tree l.node))) × Extends (string_bytes l.fn.out) (string_bytes l.out)

abbrev pub invariant-loop-name : goal.invariant-loop-name
invariant-loop-name g l =
    (height (left g.N.Rooted.tree l.name-iterator) < depth (g.N.Rooted.tree l.node))
    × Extends (string_bytes l.fn.out) (string_bytes l.out)
