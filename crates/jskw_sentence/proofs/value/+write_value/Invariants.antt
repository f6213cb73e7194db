use Rattle.std.proofs.Common.{◌≡◌, length, string_bytes}
use Rattle.jskw_value.specs.Tree.{items}
use Rattle.jskw_sentence.specs.Growth.{GrowsWithin}
use Rattle.jskw_sentence.proofs.value.+write_value.Given as goal

abbrev pub decreases-write_value : goal.decreases-write_value
decreases-write_value g l = l.depth

abbrev pub invariant-loop-i : goal.invariant-loop-i
invariant-loop-i g l =
    (l.i-end ≡ length (items (g.N.Rooted.tree l.value)))
    × GrowsWithin (string_bytes l.fn.text) l.fn.room (string_bytes l.text) l.room

abbrev pub invariant-loop-name : goal.invariant-loop-name
invariant-loop-name g l = GrowsWithin (string_bytes l.fn.text) l.fn.room (string_bytes l.text) l.room
