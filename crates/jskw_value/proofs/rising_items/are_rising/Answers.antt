use Rattle.std.proofs.Common.{◌<◌, ◌≤◌, ◌∙◌, length, arith, sym}
use Rattle.jskw_value.specs.Tree.{items}
use Rattle.jskw_value.proofs.RisingItems.{rising_step}
use Rattle.jskw_value.proofs.rising_items.are_rising.Goals as goal

pub loop-i-preserved : goal.loop-i-preserved
loop-i-preserved g c =
    let ts = items (g.N.Rooted.tree c.args.array.now) in
    let invariant = c.loop-i.invariant in
    let within : c.loop-i.i < length ts = omega (arith, c.loop-i-test.true, invariant.0) in
    let natural = sym c.whole_number.ensures ∙ c.in-Some.is in
    let most : c.loop-i.least ≤ c.in-Some.number = omega (arith, c.if-least-number.true) in
    let step = rising_step ts c.loop-i.i c.loop-i.least c.in-Some.number _ within c.item.ensures.value natural most in
    (invariant.0, step invariant.1)
