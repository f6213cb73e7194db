-- Limits on numbers.
use Rattle.std.specs.Ordering.{is_lt, is_le, is_gt, is_ge}
use Rattle.std.specs.Prelude.{ℤ, pos, Bool, Option, Some, None}
use Rattle.std.specs.declared.cmp.Ordering.{Ordering}
use Rattle.jskw_value.specs.Number.{exact, cmp_whole}
use Rattle.jskw_value.specs.Tree.{Tree, number}
use Rattle.jskw_report.specs.Keyword.{Relation, Minimum, Maximum, ExclusiveMinimum, ExclusiveMaximum}
use Rattle.jskw_number.specs.declared.helpers.WholeNumber.{WholeNumber}
use Rattle.jskw_number.specs.declared.helpers.WholeNumber.TheVariants.{Unsigned, Signed}

-- the number itself
abbrev pub whole_of : WholeNumber → ℤ
whole_of (Unsigned n) = pos n
whole_of (Signed z) = z

-- how a number stands to a whole number; nothing else stands to one
abbrev pub stands_to : ℤ → Tree → Option Ordering
stands_to z (number (exact c k)) = Some (cmp_whole c k z)
stands_to z _ = None

-- a number that stands so to a limit is within it
abbrev pub allows : Relation → Ordering → Bool
allows Minimum o = is_ge o
allows Maximum o = is_le o
allows ExclusiveMinimum o = is_gt o
allows ExclusiveMaximum o = is_lt o
