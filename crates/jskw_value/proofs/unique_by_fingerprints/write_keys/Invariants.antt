use Rattle.std.proofs.Common.{◌≡◌, length}
use Rattle.jskw_value.specs.Tree.{items}
use Rattle.jskw_value.specs.Unique.{AreKeysFrom}
use Rattle.jskw_value.proofs.unique_by_fingerprints.write_keys.Given as goal

abbrev pub invariant-loop-i : goal.invariant-loop-i
invariant-loop-i g l =
    (length l.keys ≡ length l.fn.keys)
    × AreKeysFrom l.seed l.doubtful l.start l.i l.keys (items (g.N.Rooted.tree l.array))
