use Rattle.jskw_value.proofs.DecimalTrees.{found_of_object}
use Rattle.jskw_value.proofs.decimal_tree.DecimalTreeObject.find.Goals as goal

pub returns-clause-value : goal.returns-clause-value
returns-clause-value c = rw c.in-Object.is (found_of_object _ _ _ c.get.ensures)
