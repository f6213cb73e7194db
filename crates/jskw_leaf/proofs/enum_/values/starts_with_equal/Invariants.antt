use Rattle.std.proofs.Common.{◌≡◌, drop}
use Rattle.jskw_leaf.specs.Values.{has_value}
use Rattle.jskw_leaf.proofs.enum_.values.starts_with_equal.Given as goal

abbrev pub invariant-loop-option : goal.invariant-loop-option
invariant-loop-option g l =
    has_value (drop l.option-index l.options) (g.F.Node.Rooted.tree l.instance)
    ≡ has_value l.options (g.F.Node.Rooted.tree l.instance)
