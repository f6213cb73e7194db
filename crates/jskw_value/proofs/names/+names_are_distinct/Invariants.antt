use Rattle.std.proofs.Common.{◌≡◌, ◌<◌, drop, length}
use Rattle.std.specs.List.{list_all, IsDistinct}
use Rattle.std.specs.Map.{values_of}
use Rattle.std.specs.Str.{bytes_eq}
use Rattle.jskw_value.specs.Tree.{items, names, values, has_distinct_names}
use Rattle.jskw_value.specs.Walk.{left}
use Rattle.jskw_value.proofs.Depth.{depth, height}
use Rattle.jskw_value.proofs.names.+names_are_distinct.Given as goal

abbrev pub decreases-names_are_distinct : goal.decreases-names_are_distinct
decreases-names_are_distinct g l = depth (g.N.Rooted.tree l.node.now)

abbrev pub invariant-loop-i : goal.invariant-loop-i
invariant-loop-i g l =
    let all = items (g.N.Rooted.tree l.node) in
    (l.i-end ≡ length all) × (list_all has_distinct_names all ≡ list_all has_distinct_names (drop l.i all))

abbrev pub invariant-loop-member : goal.invariant-loop-member
invariant-loop-member g l =
    let tree = g.N.Rooted.tree l.node in
    let rest = left g.N.Rooted.tree l.member-iterator in
    IsDistinct bytes_eq (names tree) × (height rest < depth tree)
    × (list_all has_distinct_names (values tree) ≡ list_all has_distinct_names (values_of rest))
