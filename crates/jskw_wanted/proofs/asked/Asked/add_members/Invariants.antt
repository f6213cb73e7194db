use Rattle.serde_json.specs.View.{members_view}
use Rattle.jskw_wanted.specs.Asked.{Grows}
use Rattle.jskw_wanted.proofs.Growth.{MembersLeft}
use Rattle.jskw_wanted.proofs.asked.Asked.add_members.Given as goal

abbrev pub invariant-loop-name : goal.invariant-loop-name
invariant-loop-name l =
    Grows l.fn.self l.self × MembersLeft l.self (members_view l.members.entries) (members_view l.name-iterator)
