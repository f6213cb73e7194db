use Rattle.std.proofs.Common.{◌≡◌, ◌++◌, drop, false}
use Rattle.jskw_c.specs.Evaluated.{numbers_text}
use Rattle.jskw_c.proofs.evaluation.push_numbers.Given as goal

-- what is written, with the numbers that are left
abbrev pub invariant-loop-number : goal.invariant-loop-number
invariant-loop-number l =
    l.text.items ++ numbers_text l.later (drop l.number-index l.numbers)
    ≡ l.initial.text.items ++ numbers_text false l.numbers
