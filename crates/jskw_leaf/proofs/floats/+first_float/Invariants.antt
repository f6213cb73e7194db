use Rattle.std.proofs.Common.{◌≡◌, drop}
use Rattle.serde_json.specs.View.{items_view, members_view}
use Rattle.jskw_report.specs.KeywordValue.{first_float_item, first_float_member}
use Rattle.jskw_leaf.proofs.floats.+first_float.Given as goal

abbrev pub invariant-float_in_items-loop-item : goal.invariant-float_in_items-loop-item
invariant-float_in_items-loop-item l =
    first_float_item (items_view (drop l.item-index l.item-items)) ≡ first_float_item (items_view l.items.items)

abbrev pub invariant-float_in_members-loop-member : goal.invariant-float_in_members-loop-member
invariant-float_in_members-loop-member l =
    first_float_member (members_view l.member-iterator) ≡ first_float_member (members_view l.members.entries)
