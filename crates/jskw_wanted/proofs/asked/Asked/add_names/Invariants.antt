use Rattle.jskw_wanted.specs.Asked.{Grows}
use Rattle.jskw_wanted.proofs.Growth.{NamesLeft}
use Rattle.jskw_wanted.proofs.asked.Asked.add_names.Given as goal

abbrev pub invariant-names : goal.invariant-names
invariant-names l = Grows l.fn.self l.self × NamesLeft l.self l.names l.name-index
