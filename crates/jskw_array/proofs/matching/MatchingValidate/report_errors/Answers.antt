use Rattle.jskw_array.specs.Words.{keeps_list}
use Rattle.jskw_array.proofs.MatchedItems.{matching_within}
use Rattle.jskw_array.proofs.matching.MatchingValidate.report_errors.Goals as goal

pub returns-in-Some-clause-counted : goal.returns-in-Some-clause-counted
returns-in-Some-clause-counted g c =
    matching_within (keeps_list c.args.report.now) c.args.self.now _ c.failing_location.ensures.counted

pub returns-in-None-clause-counted : goal.returns-in-None-clause-counted
returns-in-None-clause-counted g c =
    matching_within (keeps_list c.args.report.now) c.args.self.now _ c.failing_location.ensures.counted
