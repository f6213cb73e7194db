use Rattle.std.proofs.Common.{◌≡◌, ◌++◌, drop}
use Rattle.jskw_c.specs.Unchecked.{member_lines}
use Rattle.jskw_c.proofs.unchecked.member_lines.Given as goal

-- what is written, with the lines of the members that are left
abbrev pub invariant-loop-member : goal.invariant-loop-member
invariant-loop-member l = l.text.items ++ member_lines (drop l.member-index l.members) ≡ member_lines l.members
