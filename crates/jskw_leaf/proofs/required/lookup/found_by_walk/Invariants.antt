use Rattle.std.specs.Map.{keys_of}
use Rattle.jskw_value.specs.Walk.{left}
use Rattle.jskw_leaf.proofs.NameMarks.{MarksBefore}
use Rattle.jskw_leaf.proofs.required.lookup.found_by_walk.Given as goal

-- the names found so far, with those that are left
abbrev pub invariant-loop-text : goal.invariant-loop-text
invariant-loop-text g l =
    let tree = g.F.Node.Rooted.tree in
    MarksBefore l.found (keys_of (left tree l.text-iterator)) (tree l.object) (g.L.Names.names l.names)
