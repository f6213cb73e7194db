use Rattle.std.proofs.Common.{arith}
use Rattle.jskw_text.proofs.Digits.{front_digits, behind_digits, ends_before, ends_behind}
use Rattle.jskw_text.proofs.number.last_digit.Goals as goal

pub without_zeros-requires : goal.without_zeros-requires
without_zeros-requires c = behind_digits _ _ c.requires

pub without_zeros-requires-in-0 : goal.without_zeros-requires-in-0
without_zeros-requires-in-0 c = front_digits _ _ c.requires

pub returns-in-0 : goal.returns-in-0
returns-in-0 c = ends_before _ _ _ _ c.without_zeros.ensures c.in-0.is c.without_zeros-in-0.ensures

pub returns-in_default : goal.returns-in_default
returns-in_default c = ends_behind _ _ _ (omega arith) c.without_zeros.ensures
