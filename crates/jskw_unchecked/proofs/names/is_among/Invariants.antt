use Rattle.std.proofs.Common.{◌≡◌, drop, map}
use Rattle.jskw_unchecked.specs.Names.{is_one_of}
use Rattle.jskw_unchecked.proofs.names.is_among.Given as goal

abbrev pub invariant-loop-own : goal.invariant-loop-own
invariant-loop-own l =
    is_one_of l.name (map (λ own. own.now) (drop l.own-index l.names)) ≡ is_one_of l.name (map (λ own. own.now) l.names)
