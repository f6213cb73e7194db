use Rattle.std.proofs.Common.{◌≡◌, drop}
use Rattle.jskw_value.specs.Members.{value_named}
use Rattle.jskw_value.proofs.members.MemberList.get.Given as goal

-- the members before have other names
abbrev pub invariant-loop-member : goal.invariant-loop-member
invariant-loop-member g l = value_named l.name (drop l.member-index l.member-items) ≡ value_named l.name l.member-items
