use Rattle.jskw_wanted.specs.Asked.{Grows}
use Rattle.jskw_wanted.proofs.Growth.{OptionsLeft}
use Rattle.jskw_wanted.proofs.asked.Asked.add_options.Given as goal

abbrev pub invariant-options : goal.invariant-options
invariant-options l = Grows l.fn.self l.self × OptionsLeft l.self l.options l.option-index
