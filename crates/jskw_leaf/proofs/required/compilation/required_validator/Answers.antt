use Rattle.jskw_leaf.proofs.NamesOnce.{read_once}
use Rattle.jskw_leaf.proofs.required.compilation.required_validator.Goals as goal

pub validator_of-requires : goal.validator_of-requires
validator_of-requires g c = rw c.as_slice-2.ensures.value (read_once _ _ c.in_ok-names.ensures)
