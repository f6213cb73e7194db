use Rattle.std.proofs.Common.{◌&&◌, refl}
use Rattle.jskw_number.proofs.QuickSets.{both_limited}
use Rattle.jskw_number.proofs.quick_set.QuickSet.and.Goals as goal

pub returns-then-self : goal.returns-then-self
returns-then-self c =
    let one = c.args.self in
    let other = c.args.other in
    let first = c.numbers.ensures in
    let second = c.numbers-2.ensures in
    let both = c.and-integers.ensures in
    both_limited c.limited.result one other c.in_both-types.result c.limited.ensures.types c.in_both-types.ensures
    c.and-integers.result c.numbers.result c.numbers-2.result (one.has_fractions && other.has_fractions)
    c.limited.ensures.numbers refl both.ends both.integers first.integers first.fractions second.integers
    second.fractions
