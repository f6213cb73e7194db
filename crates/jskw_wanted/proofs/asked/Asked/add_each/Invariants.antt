use Rattle.jskw_wanted.specs.Asked.{Grows}
use Rattle.jskw_wanted.proofs.Growth.{EachLeft}
use Rattle.jskw_wanted.proofs.asked.Asked.add_each.Given as goal

abbrev pub invariant-schemas : goal.invariant-schemas
invariant-schemas l = Grows l.fn.self l.self × EachLeft l.self l.schemas l.schema-index
