use Rattle.jskw_report.proofs.ReportedFailures.{reports_memory}
use Rattle.jskw_report.proofs.validator.report_copied.Goals as goal

pub returns-in_err-at_keyword : goal.returns-in_err-at_keyword
returns-in_err-at_keyword g c = reports_memory g.F.Node.Rooted.tree c.args.report.now _ _ _ c.from_residual.ensures.1
