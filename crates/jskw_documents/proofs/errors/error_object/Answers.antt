use Rattle.std.proofs.Common.{◌∙◌, ◌++◌, ap}
use Rattle.jskw_value.specs.DecimalTree.{decimal_tree}
use Rattle.jskw_report.specs.Errors.{failure_of}
use Rattle.jskw_documents.specs.Shown.{error_object}
use Rattle.jskw_documents.proofs.errors.error_object.Goals as goal

pub returns : goal.returns
returns c =
    let f = failure_of decimal_tree c.args.error.now in
    let message = c.as_str-2.result.now in
    let start = c.place_of-start.result in (
      message,
      start.line,
      start.column,
      c.in_ok-push_object_of.ensures
          ∙ ap (λ z. z ++ error_object c.unwrap_or-line.result start.column message f) c.new-text.ensures.items
          ∙ ap (λ l. error_object l start.column message f) c.unwrap_or-line.ensures,
    )
