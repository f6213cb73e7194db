use Rattle.jskw_report.proofs.validator.Validate.validate.Goals as goal

pub returns-clause-first : goal.returns-clause-first
returns-clause-first g c = c.first_result.ensures.first _ c.report_errors-reported.ensures.reported
