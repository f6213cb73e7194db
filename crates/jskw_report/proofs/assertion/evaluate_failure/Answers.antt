use Rattle.std.proofs.Common.{None, false, ap, subst, sym, ◌∙◌}
use Rattle.jskw_report.specs.Errors.{kind_of}
use Rattle.jskw_report.specs.Observe.{Reports, failures_unless}
use Rattle.jskw_report.specs.Paths.{path_of}
use Rattle.jskw_report.specs.declared.report.Report.TheVariants.{First}
use Rattle.jskw_report.proofs.FailsAtMostOnce.{fails_at_most_once, fails_unless}
use Rattle.jskw_report.proofs.assertion.evaluate_failure.Goals as goal

pub returns : goal.returns
returns g c =
    let a = g.A.Assertion.asserts c.args.assertion.now in
    let k = kind_of c.kind.result in
    let tree = g.F.Node.Rooted.tree in
    let t = tree c.args.instance.now in
    let p = path_of c.args.location.now in
    let fails =
    ap (λ q. failures_unless false k q t p) c.location-schema_path.ensures
    ∙ sym (fails_unless a k c.kind.ensures t p false (sym c.requires)) in
    c.evaluate_first.ensures.unit _ (fails_at_most_once a k c.kind.ensures t p)
    (c.first_result.ensures.first _
    (subst (λ fs. Reports tree (First None) c.report_error-reported.new.report fs c.report_error-reported.result) fails
    c.report_error-reported.ensures))
