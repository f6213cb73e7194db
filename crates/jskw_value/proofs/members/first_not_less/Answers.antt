use Rattle.std.proofs.Common.{arith}
use Rattle.jskw_value.proofs.MembersInOrder.{repeats_at, rising_by_steps}
use Rattle.jskw_value.proofs.members.first_not_less.Goals as goal

pub returns-then-not-is_lt-clause-repeated : goal.returns-then-not-is_lt-clause-repeated
returns-then-not-is_lt-clause-repeated g c = λ sorted.
    repeats_at _ _ c.loop-next.next c.index-pairs-place.result c.index-pairs-next.result sorted
    (omega arith) (omega arith)
    c.loop-next.invariant c.index-pairs-place.is c.index-pairs-next.is
    (cc (c.as_str.ensures.value, c.index-pairs-next.is))

pub returns-clause-rising : goal.returns-clause-rising
returns-clause-rising g c = rising_by_steps _ (λ j l. c.loop-next.invariant j (omega (arith, l)))
