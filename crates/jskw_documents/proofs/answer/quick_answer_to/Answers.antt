use Rattle.std.proofs.Common.{◌∙◌, sym}
use Rattle.std.proofs.lemmas.Result.{IfOk-weaker}
use Rattle.jskw_text.specs.Reading.{reading}
use Rattle.jskw_documents.proofs.Valid.{valid_answer, valid_errors}
use Rattle.jskw_documents.proofs.answer.quick_answer_to.Goals as goal

pub returns-then-finds_valid-clause-text : goal.returns-then-finds_valid-clause-text
returns-then-finds_valid-clause-text c =
    let to = c.args.stream.now.checker.now in
    let bytes = c.args.document.now in
    IfOk-weaker c.valid_answer.result _ _
    (λ answer report.
    valid_answer to c.args.stream.now.file.now c.args.line bytes (reading bytes) answer.text.items
    (c.finds_valid.ensures c.if-finds_valid.true) report)
    c.valid_answer.ensures.text

pub returns-then-finds_valid-clause-errors : goal.returns-then-finds_valid-clause-errors
returns-then-finds_valid-clause-errors c =
    let to = c.args.stream.now.checker.now in
    IfOk-weaker c.valid_answer.result _ _
    (λ answer none.
    none
    ∙ sym
    (valid_errors to.options.output to.options.limit to.schema (reading c.args.document.now)
    (c.finds_valid.ensures c.if-finds_valid.true)))
    c.valid_answer.ensures.errors
