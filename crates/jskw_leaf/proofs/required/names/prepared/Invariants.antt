use Rattle.std.proofs.Common.{◌≡◌, map, take}
use Rattle.jskw_leaf.proofs.required.names.prepared.Given as goal

-- the names so far
abbrev pub invariant-loop-text : goal.invariant-loop-text
invariant-loop-text g l = l.names.items ≡ map (λ n. n.now) (take l.text-index l.texts)
