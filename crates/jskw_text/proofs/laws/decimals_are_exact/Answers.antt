use Rattle.jskw_text.proofs.Exact.{exact_decimals}
use Rattle.jskw_text.proofs.laws.decimals_are_exact.Goals as goal

pub returns : goal.returns
returns c = exact_decimals
