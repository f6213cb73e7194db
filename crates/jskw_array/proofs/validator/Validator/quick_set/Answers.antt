use Rattle.jskw_number.proofs.QuickSets.{without_arrays}
use Rattle.jskw_array.specs.Words.{validator_keyword}
use Rattle.jskw_array.proofs.AcceptedValues.{about_arrays}
use Rattle.jskw_array.proofs.validator.Validator.quick_set.Goals as goal

pub returns-in_default : goal.returns-in_default
returns-in_default g c =
    let v = c.args.self.now in
    without_arrays c.but_arrays.result (validator_keyword v) (about_arrays v c.in_default.not-Leaf) c.but_arrays.ensures
