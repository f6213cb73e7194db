use Rattle.std.proofs.Common.{◌≡◌, ◌<◌, drop, length, true}
use Rattle.jskw_value.specs.FirstFloat.{float_from, float_among}
use Rattle.jskw_value.specs.Tree.{items, members, is_array, is_object}
use Rattle.jskw_value.specs.Walk.{left}
use Rattle.jskw_value.proofs.Depth.{depth, height}
use Rattle.jskw_value.proofs.first_float.+location_of_float.Given as goal

abbrev pub decreases-location_of_float : goal.decreases-location_of_float
decreases-location_of_float g l = depth (g.N.Rooted.tree l.node.now)

abbrev pub invariant-loop-i : goal.invariant-loop-i
invariant-loop-i g l =
    let tree = g.N.Rooted.tree l.node in
    let all = items tree in
    (is_array tree ≡ true) × (l.i-end ≡ length all) × (float_from 0 all ≡ float_from l.i (drop l.i all))

abbrev pub invariant-loop-name : goal.invariant-loop-name
invariant-loop-name g l =
    let tree = g.N.Rooted.tree l.node in
    let rest = left g.N.Rooted.tree l.name-iterator in
    (is_object tree ≡ true) × (height rest < depth tree) × (float_among (members tree) ≡ float_among rest)
