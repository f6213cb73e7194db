use Rattle.jskw_report.proofs.FirstFloats.{first_float_is_one}
use Rattle.jskw_report.proofs.laws.first_float_is_one.Goals as goal

pub returns : goal.returns
returns c = first_float_is_one
