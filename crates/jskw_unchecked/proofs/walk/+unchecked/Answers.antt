use Rattle.std.proofs.Common.{rules, ◌≡◌, ◌++◌, arith}
use Rattle.serde_json.specs.View.{view, items_view}
use Rattle.jskw_value.specs.Pointer.{item_location}
use Rattle.jskw_unchecked.specs.Unchecked.{unchecked, unchecked_each}
use Rattle.jskw_unchecked.proofs.Items.{item_depth, next_schema}
use Rattle.jskw_unchecked.proofs.walk.+unchecked.Goals as goal

pub push_each-push_schema-requires : goal.push_each-push_schema-requires
push_each-push_schema-requires g t c κs within =
    let below =
    item_depth c.args.schemas.now.items c.loop-index.index c.schema-item.result (search rules) (search rules) in
    (omega (arith, below, c.decreases), search rules)

pub push_each-loop-index-preserved : goal.push_each-loop-index-preserved
push_each-loop-index-preserved g t c =
    let l = c.loop-index in
    let s = c.args.ctx.now.setting in
    let p = c.args.ctx.now.location in
    let vs = c.args.schemas.now.items in
    let v = c.schema-item.result in
    let more : c.push_schema.new.list.items ≡ l.list.items ++ unchecked (view v) s (item_location p l.index) =
    search (rules, c.in_ok-push_schema.ensures, c.in_ok-item.ensures) in
    let all = c.args.list.now.items ++ unchecked_each (items_view vs) s p 0 in
    next_schema l.list.items c.push_schema.new.list.items all s p vs l.index v (search rules)
    (search rules) more l.invariant
