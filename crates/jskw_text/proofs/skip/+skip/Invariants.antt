use Rattle.std.proofs.Common.{◌+◌, ◌-◌, ◌*◌, ◌≤◌, List, length, drop}
use Rattle.jskw_value.specs.Tree.{Tree, Members}
use Rattle.jskw_text.proofs.Passing.{IsLeft, ItemsLeft, MembersLeft}
use Rattle.jskw_text.proofs.skip.+skip.Given as goal

abbrev pub decreases-skip : goal.decreases-skip
decreases-skip l = 2 * l.depth

abbrev pub decreases-skip_items : goal.decreases-skip_items
decreases-skip_items l = 2 * l.depth + 1

abbrev pub decreases-skip_members : goal.decreases-skip_members
decreases-skip_members l = 2 * l.depth + 1

abbrev pub invariant-skip_items-items : goal.invariant-skip_items-items
invariant-skip_items-items l =
    (l.from ≤ l.at) × (l.at ≤ length l.text)
    × ((ts : List Tree) × IsLeft (ItemsLeft l.depth (drop l.from l.text) ts) (drop l.from l.text) (drop l.at l.text))

abbrev pub decreases-skip_items-items : goal.decreases-skip_items-items
decreases-skip_items-items l = length l.text - l.at

abbrev pub invariant-skip_members-members : goal.invariant-skip_members-members
invariant-skip_members-members l =
    (l.from ≤ l.at) × (l.at ≤ length l.text)
    × ((ms : Members) × IsLeft (MembersLeft l.depth (drop l.from l.text) ms) (drop l.from l.text) (drop l.at l.text))

abbrev pub decreases-skip_members-members : goal.decreases-skip_members-members
decreases-skip_members-members l = length l.text - l.at
