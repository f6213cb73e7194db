use Rattle.std.proofs.Common.{arith}
use Rattle.jskw_number.proofs.quick_set.integer_range.IntegerRange.between.Goals as goal

pub invariant_of-divisor : goal.invariant_of-divisor
invariant_of-divisor c = record { ok = omega arith }
