use Rattle.jskw_wanted.proofs.LevelsLeft.{IsLeft}
use Rattle.jskw_wanted.proofs.levels.wanted.Given as goal

abbrev pub invariant-levels : goal.invariant-levels
invariant-levels l = IsLeft l.schema l.levels.items l.here.items
