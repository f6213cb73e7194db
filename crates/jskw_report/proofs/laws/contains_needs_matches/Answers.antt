use Rattle.jskw_report.proofs.ContainsMatches.{contains_matches}
use Rattle.jskw_report.proofs.laws.contains_needs_matches.Goals as goal

pub returns : goal.returns
returns c = contains_matches
