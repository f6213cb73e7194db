use Rattle.jskw_report.proofs.ReportedFailures.{reports_memory}
use Rattle.jskw_report.proofs.validator.report_error.Goals as goal

pub returns-in_err-instance_path : goal.returns-in_err-instance_path
returns-in_err-instance_path g c = reports_memory g.F.Node.Rooted.tree c.args.report.now _ _ _ c.from_residual.ensures.1
