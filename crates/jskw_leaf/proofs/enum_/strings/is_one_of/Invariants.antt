use Rattle.std.proofs.Common.{◌≡◌, drop}
use Rattle.jskw_leaf.specs.Options.{some_text}
use Rattle.jskw_leaf.proofs.enum_.strings.is_one_of.Given as goal

abbrev pub invariant-loop-name : goal.invariant-loop-name
invariant-loop-name l = some_text (drop l.name-index l.names) l.text ≡ some_text l.names l.text
