use Rattle.std.proofs.Common.{arith}
use Rattle.jskw_array.proofs.PassedItems.{passing_on}
use Rattle.jskw_array.proofs.accepted.ItemSets.first_outside.Goals as goal

pub loop-index-preserved : goal.loop-index-preserved
loop-index-preserved g c =
    let known = c.in-Some.ensures in
    let sum = c.saturating_add-applied.ensures in
    passing_on c.loop-index.invariant _ c.loop-index-test.true c.item.ensures.value known.in_set
    {n = c.in-Some.items} known.least known.most (omega arith) (omega (arith, sum)) (omega (arith, sum))
