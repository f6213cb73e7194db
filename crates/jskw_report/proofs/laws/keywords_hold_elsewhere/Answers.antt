use Rattle.jskw_report.proofs.HoldsElsewhere.{holds_elsewhere}
use Rattle.jskw_report.proofs.laws.keywords_hold_elsewhere.Goals as goal

pub returns : goal.returns
returns c = holds_elsewhere
