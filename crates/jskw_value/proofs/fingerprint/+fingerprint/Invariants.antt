use Rattle.std.proofs.Common.{◌≡◌, ◌+◌, ◌*◌, ◌%◌, ◌^◌, ◌<◌, min, drop, take, length}
use Rattle.std.specs.Int.Bits.{bit_xor}
use Rattle.std.specs.List.{list_all, sum_by, IsDistinct}
use Rattle.std.specs.Map.{values_of}
use Rattle.std.specs.Str.{bytes_eq}
use Rattle.jskw_value.specs.Fingerprint.{stirred, share, list_fingerprint, member_fingerprint, is_distinct_within}
use Rattle.jskw_value.specs.Tree.{items, members, names, values}
use Rattle.jskw_value.specs.Walk.{left}
use Rattle.jskw_value.proofs.Depth.{depth, height}
use Rattle.jskw_value.proofs.fingerprint.+fingerprint.Given as goal

abbrev pub decreases-fingerprint_within : goal.decreases-fingerprint_within
decreases-fingerprint_within g l = 4 * depth (g.N.Rooted.tree l.node.now) + 3

abbrev pub decreases-of_other : goal.decreases-of_other
decreases-of_other g l = 4 * depth (g.N.Rooted.tree l.node.now) + 2

abbrev pub decreases-of_array : goal.decreases-of_array
decreases-of_array g l = 4 * depth (g.N.Rooted.tree l.node.now) + 1

abbrev pub decreases-of_object : goal.decreases-of_object
decreases-of_object g l = 4 * depth (g.N.Rooted.tree l.node.now) + 1

abbrev pub decreases-of_members : goal.decreases-of_members
decreases-of_members g l = 4 * depth (g.N.Rooted.tree l.node.now)

abbrev pub invariant-of_array-loop-i : goal.invariant-of_array-loop-i
invariant-of_array-loop-i g l =
    let all = items (g.N.Rooted.tree l.node) in
    let first = take l.budget all in
    (l.i-end ≡ min (length all) l.budget) × (l.each ≡ share l.budget (length all))
    × (list_all (is_distinct_within l.each) first ≡ list_all (is_distinct_within l.each) (drop l.i first))
    × (list_fingerprint l.seed l.each (stirred (bit_xor 4 l.seed) (length all) 0) first
    ≡ list_fingerprint l.seed l.each l.hash (drop l.i first))

abbrev pub invariant-of_members-loop-name : goal.invariant-of_members-loop-name
invariant-of_members-loop-name g l =
    let tree = g.N.Rooted.tree l.node in
    let rest = left g.N.Rooted.tree l.name-iterator in
    IsDistinct bytes_eq (names tree) × (height rest < depth tree)
    × (list_all (is_distinct_within l.budget) (values tree) ≡ list_all (is_distinct_within l.budget) (values_of rest))
    × ((l.sum + sum_by (member_fingerprint l.seed l.budget) rest) % 2 ^ 64
    ≡ sum_by (member_fingerprint l.seed l.budget) (members tree) % 2 ^ 64)
