use Rattle.std.proofs.Common.{◌≡◌, ◌≤◌, ◌+◌, ◌*◌, ◌++◌, drop}
use Rattle.serde_json.specs.Data.{depth, items_depth, members_depth}
use Rattle.serde_json.specs.View.{view, items_view, members_view}
use Rattle.jskw_unchecked.specs.Unchecked.{unchecked_among, unchecked_each}
use Rattle.jskw_unchecked.proofs.walk.+unchecked.Given as goal

abbrev pub decreases-push_schema : goal.decreases-push_schema
decreases-push_schema g l = 5 * depth (view l.schema.now)

abbrev pub decreases-push_members : goal.decreases-push_members
decreases-push_members g l = 5 * members_depth (members_view l.parent.now.entries) + 4

abbrev pub decreases-push_member : goal.decreases-push_member
decreases-push_member g l = 5 * depth (view l.value.now) + 3

abbrev pub decreases-push_below : goal.decreases-push_below
decreases-push_below g l = 5 * depth (view l.value.now) + 2

abbrev pub decreases-push_each : goal.decreases-push_each
decreases-push_each g l = 5 * items_depth (items_view l.schemas.now.items) + 1

abbrev pub invariant-push_members-loop-name : goal.invariant-push_members-loop-name
invariant-push_members-loop-name g l =
    let all = members_view l.parent.entries in
    let rest = members_view l.name-iterator in
    record {
      left : l.list.items ++ unchecked_among rest all l.ctx.setting l.ctx.location
          ≡ l.initial.list.items ++ unchecked_among all all l.ctx.setting l.ctx.location;
      depth : members_depth rest ≤ members_depth all;
    }

abbrev pub invariant-push_each-loop-index : goal.invariant-push_each-loop-index
invariant-push_each-loop-index g l =
    l.list.items ++ unchecked_each (items_view (drop l.index l.schemas.items)) l.ctx.setting l.ctx.location l.index
    ≡ l.initial.list.items ++ unchecked_each (items_view l.schemas.items) l.ctx.setting l.ctx.location 0
