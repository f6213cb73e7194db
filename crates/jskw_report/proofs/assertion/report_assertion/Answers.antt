use Rattle.std.proofs.Common.{◌∙◌, sym}
use Rattle.jskw_report.specs.Paths.{path_of}
use Rattle.jskw_report.proofs.FailsAtMostOnce.{fails_never}
use Rattle.jskw_report.proofs.ReportedFailures.{reports_none}
use Rattle.jskw_report.proofs.assertion.report_assertion.Goals as goal

pub returns-then-holds-clause-reported : goal.returns-then-holds-clause-reported
returns-then-holds-clause-reported g c =
    reports_none g.F.Node.Rooted.tree c.args.report.now _
    (fails_never (g.A.Assertion.asserts c.args.assertion.now) (g.F.Node.Rooted.tree c.args.instance.now)
    (path_of c.args.location.now) (sym c.if-holds.true ∙ c.holds.ensures))
