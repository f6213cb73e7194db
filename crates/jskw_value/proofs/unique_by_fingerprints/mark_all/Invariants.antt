use Rattle.std.proofs.Common.{◌≡◌, length}
use Rattle.jskw_value.specs.Unique.{AreMarked}
use Rattle.jskw_value.proofs.unique_by_fingerprints.mark_all.Given as goal

abbrev pub invariant-loop-i : goal.invariant-loop-i
invariant-loop-i l =
    (l.i-end ≡ length l.keys) × (length l.sketch ≡ length l.fn.sketch) × AreMarked l.i l.keys l.sketch
