use Rattle.jskw_value.proofs.SerdeTrees.{found_of_object}
use Rattle.jskw_value.proofs.serde_tree.ValueObject.find.Goals as goal

pub returns-clause-value : goal.returns-clause-value
returns-clause-value c = rw c.in-Object.is (found_of_object _ _ _ c.get.ensures.value)
