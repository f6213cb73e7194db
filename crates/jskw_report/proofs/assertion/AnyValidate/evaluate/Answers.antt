use Rattle.std.proofs.Common.{◌∙◌, [], ap, refl, sym}
use Rattle.jskw_report.specs.Evaluation.{of_errors}
use Rattle.jskw_report.specs.Fail.{Failure}
use Rattle.jskw_report.specs.Paths.{path_of}
use Rattle.jskw_report.proofs.AssertionUnits.{no_errors}
use Rattle.jskw_report.proofs.FailsAtMostOnce.{fails_never}
use Rattle.jskw_report.proofs.assertion.AnyValidate.evaluate.Goals as goal

pub returns-then-holds-clause-gives : goal.returns-then-holds-clause-gives
returns-then-holds-clause-gives g c =
    let a = g.A.Assertion.asserts c.args.self.now in
    let fails =
    fails_never a (g.F.Node.Rooted.tree c.args.instance.now) (path_of c.args.location.now)
    (sym c.if-holds.true ∙ c.holds.ensures) in
    c.valid_empty.ensures ∙ no_errors (λ (f : Failure). f) [] refl ∙ ap of_errors (sym fails)
