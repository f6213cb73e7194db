use Rattle.std.proofs.Common.{◌≡◌, ◌∙◌, [], ap}
use Rattle.jskw_value.specs.DecimalTree.{decimal_tree}
use Rattle.jskw_report.specs.Fail.{fail, is_empty}
use Rattle.jskw_service.specs.FirstErrors.{first_of}
use Rattle.jskw_service.proofs.FirstErrors.{first_empty}
use Rattle.jskw_c.specs.Asked.{verdict_status}
use Rattle.jskw_c.specs.Line.{AreErrorLines}
use Rattle.jskw_c.proofs.OutcomesOfInstances.{reports_errors, reports_tree}
use Rattle.jskw_c.proofs.ask.outcome_on.Goals as goal

pub returns-in_ok-error_lines-in-Errors : goal.returns-in_ok-error_lines-in-Errors
returns-in_ok-error_lines-in-Errors c =
    let s = c.args.schema.now in
    let t = decimal_tree c.args.instance.now in
    let limit = c.in-Errors.limit in
    let status : c.status_of_errors.result ≡ verdict_status (is_empty (fail s t [])) =
    rw (c.as_slice.ensures.value, c.in_ok-errors-in-Errors.ensures, first_empty limit (fail s t [])) at
    c.status_of_errors.ensures in
    let text = c.in_ok-error_lines-in-Errors.field-0.items in
    let lines : AreErrorLines (first_of limit (fail s t [])) text =
    rw (c.as_slice-in-Errors.ensures.value, c.in_ok-errors-in-Errors.ensures) at
    c.in_ok-error_lines-in-Errors.ensures in
    rw c.in-Errors.is (reports_errors limit s t _ status lines)

pub returns-in_ok-tree_text-in-Evaluation : goal.returns-in_ok-tree_text-in-Evaluation
returns-in_ok-tree_text-in-Evaluation c =
    let tree = c.in_ok-tree-in-Evaluation in
    rw c.in-Evaluation.is
    (reports_tree c.args.schema.now (decimal_tree c.args.instance.now) _ tree.tree tree.ensures.gives
    (c.verdict.ensures ∙ ap verdict_status c.valid.ensures) c.in_ok-tree_text-in-Evaluation.ensures)
