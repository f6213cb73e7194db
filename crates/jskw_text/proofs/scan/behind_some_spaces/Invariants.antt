use Rattle.std.proofs.Common.{◌≡◌, ◌-◌, ◌≤◌, length, drop}
use Rattle.json.specs.Lex.{between, lex}
use Rattle.jskw_text.proofs.scan.behind_some_spaces.Given as goal

abbrev pub invariant-spaces : goal.invariant-spaces
invariant-spaces l =
    (lex between (drop l.from l.bytes) ≡ lex between (drop l.at l.bytes)) × (l.from ≤ l.at) × (l.at ≤ length l.bytes)

abbrev pub decreases-spaces : goal.decreases-spaces
decreases-spaces l = length l.bytes - l.at
