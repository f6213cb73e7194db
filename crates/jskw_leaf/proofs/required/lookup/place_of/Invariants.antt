use Rattle.std.proofs.Common.{◌≡◌, drop, length}
use Rattle.jskw_leaf.specs.Required.{is_among}
use Rattle.jskw_leaf.proofs.required.lookup.place_of.Given as goal

-- the text is none of the names before
abbrev pub invariant-loop-i : goal.invariant-loop-i
invariant-loop-i g l =
    let names = g.L.Names.names l.names in
    (l.i-end ≡ length names) × (is_among names l.text ≡ is_among (drop l.i names) l.text)
