use Rattle.jskw_wanted.proofs.Growth.{next_schema}
use Rattle.jskw_wanted.proofs.asked.asked_by.Goals as goal

pub schemas-preserved : goal.schemas-preserved
schemas-preserved c =
    let l = c.schemas in
    next_schema l.asked c.add.new.self c.args.schemas.now l.schema-index c.schema-item.result c.schemas-test.true
    c.schema-item.is l.invariant c.in_ok-add.ensures.grows c.in_ok-add.ensures.asks
