use Rattle.std.proofs.Common.{◌∙◌, sym}
use Rattle.jskw_report.specs.Errors.{failure_of}
use Rattle.jskw_report.proofs.AssertionUnits.{no_errors, some_errors}
use Rattle.jskw_report.proofs.validator.evaluate_errors.Goals as goal

pub returns-then-is_empty-clause-unit : goal.returns-then-is_empty-clause-unit
returns-then-is_empty-clause-unit g c =
    c.valid_empty.ensures
    ∙ no_errors (failure_of g.F.Node.Rooted.tree) c.args.errors.now (sym c.is_empty.ensures ∙ c.if-is_empty.true)

pub returns-clause-unit : goal.returns-clause-unit
returns-clause-unit g c =
    c.invalid_empty.ensures.unit ∙ some_errors (failure_of g.F.Node.Rooted.tree) c.args.errors.now
    c.loop-error.error-index _ (sym c.is_empty.ensures ∙ c.if-is_empty.false) c.loop-error-test.false
    c.loop-error.invariant
