use Rattle.std.proofs.Common.{◌+◌, ◌*◌, List, length, map}
use Rattle.jskw_value.specs.DecimalTree.{decimal_tree}
use Rattle.jskw_value.specs.Members.{lasts}
use Rattle.jskw_value.specs.Tree.{Tree, Members}
use Rattle.jskw_text.specs.Members.{members_seen}
use Rattle.jskw_text.proofs.Passing.{IsLeft, ItemsLeft, MembersLeft}
use Rattle.jskw_text.proofs.Pruned.{AlikeItems, AlikeMembers}
use Rattle.jskw_text.proofs.quick.+read.Given as goal

abbrev pub decreases-read : goal.decreases-read
decreases-read l = 2 * l.depth

abbrev pub decreases-read_items : goal.decreases-read_items
decreases-read_items l = 2 * l.depth + 1

abbrev pub decreases-read_members : goal.decreases-read_members
decreases-read_members l = 2 * l.depth + 1

abbrev pub invariant-read_items-items : goal.invariant-read_items-items
invariant-read_items-items l =
    (us : List Tree) × IsLeft (ItemsLeft l.depth l.fn.cursor us) l.fn.cursor l.cursor
    × AlikeItems l.fn.wanted (map decimal_tree l.found.items) us

abbrev pub decreases-read_items-items : goal.decreases-read_items-items
decreases-read_items-items l = length l.cursor

abbrev pub invariant-read_members-members : goal.invariant-read_members-members
invariant-read_members-members l =
    (us : Members) × IsLeft (MembersLeft l.depth l.fn.cursor us) l.fn.cursor l.cursor
    × AlikeMembers l.wanted (members_seen (lasts l.found.items)) us

abbrev pub decreases-read_members-members : goal.decreases-read_members-members
decreases-read_members-members l = length l.cursor
