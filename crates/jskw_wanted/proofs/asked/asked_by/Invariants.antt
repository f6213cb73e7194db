use Rattle.jskw_wanted.proofs.Growth.{SchemasLeft}
use Rattle.jskw_wanted.proofs.asked.asked_by.Given as goal

abbrev pub invariant-schemas : goal.invariant-schemas
invariant-schemas l = SchemasLeft l.asked l.schemas l.schema-index
