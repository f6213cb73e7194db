use Rattle.std.proofs.Common.{◌≡◌, ◌≤◌, length, string_bytes, take, true}
use Rattle.std.specs.List.{list_all}
use Rattle.std.specs.Map.{keys_of}
use Rattle.jskw_value.specs.Tree.{has_name}
use Rattle.jskw_value.specs.Walk.{left}
use Rattle.jskw_leaf.proofs.required.lookup.count_in_order.Given as goal

-- the members that are left are the object's, and so are the names that were found
abbrev pub invariant-loop-name : goal.invariant-loop-name
invariant-loop-name g l =
    let tree = g.F.Node.Rooted.tree in
    let has = has_name (tree l.object) in
    (l.found ≤ length l.table) × (list_all has (keys_of (left tree l.name-iterator)) ≡ true)
    × (list_all (λ name. has (string_bytes name)) (take l.found l.table) ≡ true)
