use Rattle.std.proofs.Common.{arith}
use Rattle.std.proofs.lemmas.Int.{ints}
use Rattle.jskw_number.proofs.QuickSets.{nothing_enclosed}
use Rattle.jskw_number.proofs.quick_set.integer_range.IntegerRange.none.Goals as goal

pub returns-clause-enclosed : goal.returns-clause-enclosed
returns-clause-enclosed c =
    let ends = c.between.ensures.ends in nothing_enclosed c.between.result (omega (arith, ints, ends.0, ends.1))
