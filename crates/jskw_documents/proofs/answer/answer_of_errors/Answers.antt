use Rattle.std.proofs.Common.{◌∙◌, [], ap, sym}
use Rattle.jskw_value.specs.DecimalTree.{decimal_tree}
use Rattle.jskw_report.specs.Errors.{failures_of}
use Rattle.jskw_report.specs.Fail.{fail, is_empty}
use Rattle.jskw_report.proofs.HoldsIsNoFailure.{holds_empty}
use Rattle.jskw_service.proofs.FirstErrors.{first_empty}
use Rattle.jskw_documents.specs.Documents.{verdict_if}
use Rattle.jskw_documents.specs.Reports.{first_of}
use Rattle.jskw_documents.proofs.answer.answer_of_errors.Goals as goal

pub returns-clause-verdict : goal.returns-clause-verdict
returns-clause-verdict c =
    let s = c.args.stream.now.checker.now.schema in
    let limit = c.args.stream.now.checker.now.options.limit in
    let t = decimal_tree c.args.tree.now in
    c.verdict_of_errors.ensures
    ∙ ap (λ es. verdict_if (is_empty (failures_of decimal_tree es))) c.as_slice-2.ensures.value
    ∙ ap (λ fs. verdict_if (is_empty fs)) c.in_ok-errors.ensures.errors
    ∙ ap (λ schema. verdict_if (is_empty (first_of limit (fail schema t [])))) c.node.ensures
    ∙ ap verdict_if (first_empty limit (fail s t []) ∙ sym (holds_empty s t []))
