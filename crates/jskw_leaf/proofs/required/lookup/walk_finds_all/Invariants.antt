use Rattle.std.proofs.Common.{◌≡◌, ◌+◌, count_by, length}
use Rattle.std.specs.Map.{keys_of}
use Rattle.jskw_value.specs.Tree.{names}
use Rattle.jskw_value.specs.Walk.{left}
use Rattle.jskw_leaf.specs.Required.{is_among}
use Rattle.jskw_leaf.proofs.required.lookup.walk_finds_all.Given as goal

-- the names found so far, with those that are left
abbrev pub invariant-loop-text : goal.invariant-loop-text
invariant-loop-text g l =
    let tree = g.F.Node.Rooted.tree in
    let wanted = is_among (g.L.Names.names l.names) in
    (l.count ≡ length (g.L.Names.names l.names))
    × (l.found + count_by wanted (keys_of (left tree l.text-iterator)) ≡ count_by wanted (names (tree l.object)))
