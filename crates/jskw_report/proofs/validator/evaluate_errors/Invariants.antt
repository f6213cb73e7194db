use Rattle.std.proofs.Common.{◌≡◌, ◌++◌, drop}
use Rattle.jskw_report.specs.Errors.{failures_of}
use Rattle.jskw_report.specs.EvaluationParts.{keywords_of}
use Rattle.jskw_report.proofs.AssertionUnits.{keywords}
use Rattle.jskw_report.proofs.validator.evaluate_errors.Given as goal

-- the keywords so far, with those of the errors that are left
abbrev pub invariant-loop-error : goal.invariant-loop-error
invariant-loop-error g l =
    let tree = g.F.Node.Rooted.tree in
    keywords_of l.descriptions.items ++ keywords (failures_of tree (drop l.error-index l.errors))
    ≡ keywords (failures_of tree l.errors)
