use Rattle.std.proofs.Common.{◌≡◌, ◌-◌, ◌++◌, drop, length}
use Rattle.json.specs.Tree.{json_tokens, items_tokens, members_tokens}
use Rattle.json.specs.Value.{value_view, items_view, members_view}
use Rattle.jskw_c.specs.Names.{HasNames}
use Rattle.jskw_c.specs.Repeated.{repeated_in_items, repeated_in_members}
use Rattle.jskw_c.proofs.repeated.+repeated.Given as goal

abbrev pub decreases-push_in_value : goal.decreases-push_in_value
decreases-push_in_value l = length (json_tokens (value_view l.value.now))

abbrev pub decreases-push_in_items : goal.decreases-push_in_items
decreases-push_in_items l = length (items_tokens (items_view l.items.now))

abbrev pub decreases-push_in_members : goal.decreases-push_in_members
decreases-push_in_members l = length (members_tokens (members_view l.members.now))

-- what is written, with the lines of what is left
abbrev pub invariant-push_in_items-loop-index : goal.invariant-push_in_items-loop-index
invariant-push_in_items-loop-index l =
    l.text.items ++ repeated_in_items l.at l.index (items_view (drop l.index l.items))
    ≡ l.initial.text.items ++ repeated_in_items l.at 0 (items_view l.items)

-- the lines of the last members, and their names
abbrev pub invariant-push_in_members-loop-step : goal.invariant-push_in_members-loop-step
invariant-push_in_members-loop-step l =
    let ms = members_view (drop (length l.members - l.step) l.members) in
    (l.text.items ≡ l.initial.text.items ++ repeated_in_members l.at ms) × HasNames l.seen ms
