-- What a `Decimal` stands for.
use Rattle.std.specs.Prelude.{ℤ}
use Rattle.jskw_value.specs.Number.{Num, exact, signed}
use Rattle.jskw_value.specs.declared.decimal.Decimal.{Decimal}

-- the coefficient of a decimal
abbrev pub coefficient : Decimal → ℤ
coefficient d = signed d.is_negative d.size

-- the number of a decimal
abbrev pub value : Decimal → Num
value d = exact (coefficient d) d.scale
