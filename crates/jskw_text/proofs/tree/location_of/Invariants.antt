use Rattle.std.proofs.Common.{◌≡◌, ◌≤◌, drop, length, map, string_bytes}
use Rattle.jskw_text.specs.Stop.{location_of}
use Rattle.jskw_text.proofs.tree.location_of.Given as goal

abbrev pub invariant-loop-at : goal.invariant-loop-at
invariant-loop-at l =
    (l.at ≤ length l.steps) × (string_bytes l.location ≡ location_of (map string_bytes (drop l.at l.steps)))

abbrev pub decreases-loop-at : goal.decreases-loop-at
decreases-loop-at l = l.at
