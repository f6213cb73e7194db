use Rattle.std.proofs.Common.{◌≤◌, length, drop}
use Rattle.jskw_text.specs.Members.{AreGreater}
use Rattle.jskw_text.proofs.sorted.place_of.Given as goal

abbrev pub invariant-steps : goal.invariant-steps
invariant-steps l = (l.place ≤ length l.found) × AreGreater l.name (drop l.place l.found)
