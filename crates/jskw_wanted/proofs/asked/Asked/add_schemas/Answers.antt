use Rattle.std.proofs.Common.{rules, ◌≡◌, None}
use Rattle.serde_json.specs.Find.{as_array}
use Rattle.serde_json.specs.View.{view}
use Rattle.jskw_wanted.proofs.Growth.{value_alone}
use Rattle.jskw_wanted.proofs.asked.Asked.add_schemas.Goals as goal

pub returns-in_default-clause-asks : goal.returns-in_default-clause-asks
returns-in_default-clause-asks c = λ ls e.
    let none : None ≡ as_array (view c.args.value.now) = search rules in
    value_alone (view c.args.value.now) ls none (c.in_ok-add_schema.ensures.asks ls e)
