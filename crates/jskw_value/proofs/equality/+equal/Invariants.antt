use Rattle.std.proofs.Common.{◌≡◌, ◌+◌, ◌*◌, ◌<◌, drop, length}
use Rattle.std.specs.Cmp.Lexicographic.{pointwise}
use Rattle.std.specs.List.{list_all, IsDistinct}
use Rattle.std.specs.Str.{bytes_eq}
use Rattle.jskw_value.specs.Equality.{equal, has_equal, AreMembers}
use Rattle.jskw_value.specs.Tree.{items, members, names}
use Rattle.jskw_value.specs.Walk.{left as rest_of}
use Rattle.jskw_value.proofs.Depth.{depth, height}
use Rattle.jskw_value.proofs.equality.+equal.Given as goal

abbrev pub decreases-equal_nodes : goal.decreases-equal_nodes
decreases-equal_nodes g l = 3 * depth (g.N.Rooted.tree l.left.now) + 1

abbrev pub decreases-equal_arrays : goal.decreases-equal_arrays
decreases-equal_arrays g l = 3 * depth (g.N.Rooted.tree l.left.now)

abbrev pub decreases-equal_objects : goal.decreases-equal_objects
decreases-equal_objects g l = 3 * depth (g.N.Rooted.tree l.left.now)

abbrev pub decreases-equals_found : goal.decreases-equals_found
decreases-equals_found g l = 3 * depth (g.N.Rooted.tree l.member.now) + 2

abbrev pub invariant-equal_arrays-loop-i : goal.invariant-equal_arrays-loop-i
invariant-equal_arrays-loop-i g l =
    let left = items (g.N.Rooted.tree l.left) in
    let right = items (g.M.Rooted.tree l.right) in
    (l.count ≡ length left) × (l.count ≡ length right)
    × (pointwise equal left right ≡ pointwise equal (drop l.i left) (drop l.i right))

abbrev pub invariant-equal_objects-loop-name : goal.invariant-equal_objects-loop-name
invariant-equal_objects-loop-name g l =
    let left = g.N.Rooted.tree l.left in
    let right = g.M.Rooted.tree l.right in
    let rest = rest_of g.N.Rooted.tree l.name-iterator in
    (length (members left) ≡ length (members right))
    × IsDistinct bytes_eq (names left)
    × IsDistinct bytes_eq (names right)
    × (height rest < depth left)
    × AreMembers right (rest_of g.M.Rooted.tree l.others)
    × (list_all (has_equal right) (members left) ≡ list_all (has_equal right) rest)
