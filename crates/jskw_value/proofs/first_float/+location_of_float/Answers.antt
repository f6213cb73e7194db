use Rattle.std.proofs.Common.{rules, string_bytes}
use Rattle.jskw_value.proofs.FirstFloat.{found_in_item}
use Rattle.jskw_value.proofs.first_float.+location_of_float.Goals as goal

-- a float that was found in an item
pub returns-in-Some : goal.returns-in-Some
returns-in-Some g t c =
    let before = c.loop-i.invariant in
    found_in_item (g.N.Rooted.tree c.args.node.now) (g.N.Rooted.tree c.item.result.now) c.loop-i.i
    (string_bytes c.in-Some.below) (string_bytes c.in_ok-from_array.field-0)
    before.0 before.2 (search rules) c.item.ensures.value (search rules) (search rules)
