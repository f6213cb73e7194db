use Rattle.std.proofs.Common.{◌≡◌, drop}
use Rattle.jskw_leaf.specs.Required.{is_among}
use Rattle.jskw_leaf.proofs.required.names.FewNamesNames.contains.Given as goal

abbrev pub invariant-loop-name : goal.invariant-loop-name
invariant-loop-name g l = is_among (drop l.name-index l.name-items) l.text ≡ is_among l.name-items l.text
