use Rattle.std.proofs.Common.{◌∙◌, [], ap, arith, sym}
use Rattle.std.proofs.lemmas.List.{take-map}
use Rattle.jskw_value.specs.DecimalTree.{decimal_tree}
use Rattle.jskw_report.specs.Errors.{failure_of, failures_of}
use Rattle.jskw_report.specs.Fail.{fail}
use Rattle.jskw_documents.proofs.Cut.{cut_first}
use Rattle.jskw_documents.proofs.answer.shown_errors.Goals as goal

pub returns-clause-errors : goal.returns-clause-errors
returns-clause-errors c =
    let limit = c.args.limit in
    let all = c.in_ok-errors.errors.items in
    ap (λ es. failures_of decimal_tree es) c.truncate.ensures.items ∙ sym (take-map (failure_of decimal_tree) limit all)
    ∙ cut_first limit (fail c.args.schema.now (decimal_tree c.args.tree.now) []) (failures_of decimal_tree all)
    (omega arith) c.in_ok-errors.ensures
