use Rattle.std.proofs.Common.{ℕ, ◌+◌, ◌<◌}
use Rattle.jskw_value.specs.Members.{IsStep}
use Rattle.jskw_value.proofs.members.first_not_less.Given as goal

abbrev pub invariant-loop-next : goal.invariant-loop-next
invariant-loop-next g l = (j : ℕ) → j + 1 < l.next → IsStep l.pairs j
