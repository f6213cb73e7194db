use Rattle.std.proofs.Common.{◌-◌, ◌<◌, ◌≤◌, length}
use Rattle.jskw_text.proofs.broken.string_end.Given as goal

abbrev pub invariant-runs : goal.invariant-runs
invariant-runs l = (l.from < l.at) × (l.at ≤ length l.bytes)

abbrev pub decreases-runs : goal.decreases-runs
decreases-runs l = length l.bytes - l.at
