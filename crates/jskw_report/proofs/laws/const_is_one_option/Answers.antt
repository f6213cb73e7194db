use Rattle.jskw_report.proofs.OneOption.{const_is_one_option}
use Rattle.jskw_report.proofs.laws.const_is_one_option.Goals as goal

pub returns : goal.returns
returns c = const_is_one_option
