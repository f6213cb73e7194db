use Rattle.std.proofs.Common.{arith}
use Rattle.std.proofs.lemmas.Int.{ints}
use Rattle.jskw_number.proofs.QuickSets.{in_both}
use Rattle.jskw_number.proofs.quick_set.integer_range.IntegerRange.and.Goals as goal

pub returns-clause-integers : goal.returns-clause-integers
returns-clause-integers c =
    in_both c.args.self c.args.other c.divided_by-range.result c.from.result c.to.result
    c.divided_by-range.ensures.integers c.from.ensures.integers c.to.ensures.integers

pub returns-clause-ends : goal.returns-clause-ends
returns-clause-ends c =
    let divided = c.divided_by-range.ensures.ends in
    let above = c.from.ensures.ends in
    let both = c.to.ensures.ends in (
      (omega (arith, ints, divided.0, above.0.0, both.0.0), omega (arith, ints, divided.1, above.0.1, both.0.1)),
      (omega (arith, ints, above.1, both.0.0), both.1),
    )
