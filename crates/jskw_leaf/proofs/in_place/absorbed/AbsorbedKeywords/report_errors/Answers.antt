use Rattle.jskw_report.specs.Paths.{path_of}
use Rattle.jskw_leaf.proofs.FusedErrors.{reported_most, stopped_at_least, stopped_at_type}
use Rattle.jskw_leaf.proofs.in_place.absorbed.AbsorbedKeywords.report_errors.Goals as goal

pub returns-in_err-report_assertion : goal.returns-in_err-report_assertion
returns-in_err-report_assertion g c =
    stopped_at_type c.args.self.now (g.F.Node.Rooted.tree c.args.instance.now) (path_of c.args.location.now)
    g.F.Node.Rooted.tree _ _
    c.from_residual.ensures.1 c.in_err-report_assertion.ensures.reported

pub returns-in_err-report_bound : goal.returns-in_err-report_bound
returns-in_err-report_bound g c =
    stopped_at_least c.args.self.now (g.F.Node.Rooted.tree c.args.instance.now) (path_of c.args.location.now)
    g.F.Node.Rooted.tree _ _
    c.in_ok-report_assertion.ensures.reported c.from_residual-in_err-report_bound.ensures.1
    c.in_err-report_bound.ensures

pub returns : goal.returns
returns g c =
    reported_most c.args.self.now (g.F.Node.Rooted.tree c.args.instance.now) (path_of c.args.location.now)
    g.F.Node.Rooted.tree _
    c.in_ok-report_assertion.ensures.reported c.in_ok-report_bound.ensures c.report_bound-2.ensures
