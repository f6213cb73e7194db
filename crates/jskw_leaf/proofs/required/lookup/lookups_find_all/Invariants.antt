use Rattle.std.proofs.Common.{◌≡◌, drop, length}
use Rattle.std.specs.List.{list_all}
use Rattle.jskw_value.specs.Tree.{has_name}
use Rattle.jskw_leaf.proofs.required.lookup.lookups_find_all.Given as goal

-- the names that are left decide
abbrev pub invariant-loop-i : goal.invariant-loop-i
invariant-loop-i g l =
    let t = g.F.Node.Rooted.tree l.object in
    let names = g.L.Names.names l.names in
    (l.i-end ≡ length names) × (list_all (has_name t) names ≡ list_all (has_name t) (drop l.i names))
