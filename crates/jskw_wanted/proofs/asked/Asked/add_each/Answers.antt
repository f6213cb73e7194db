use Rattle.jskw_wanted.proofs.Growth.{further, next_each}
use Rattle.jskw_wanted.proofs.asked.Asked.add_each.Goals as goal

pub schemas-preserved : goal.schemas-preserved
schemas-preserved c =
    let l = c.schemas in
    let new = c.add_schema.new.self in (
      further c.args.self.now l.self new l.invariant.0 c.in_ok-add_schema.ensures.grows,
      next_each l.self new c.args.schemas.now l.schema-index c.schema-item.result c.schemas-test.true
          c.schema-item.is l.invariant.1 c.in_ok-add_schema.ensures.grows c.in_ok-add_schema.ensures.asks,
    )
