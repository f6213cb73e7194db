use Rattle.std.proofs.Common.{alloc_error}
use Rattle.jskw_report.proofs.ReportedFailures.{reports_full}
use Rattle.jskw_report.proofs.report.ErrorList.add.Goals as goal

pub returns-in_err-push : goal.returns-in_err-push
returns-in_err-push g c =
    reports_full g.F.Node.Rooted.tree c.args.self.now _ _ _ alloc_error c.in_err-push.ensures.items
    c.from_residual.ensures.1
