use Rattle.jskw_value.specs.DecimalTree.{decimal_tree}
use Rattle.jskw_report.specs.Errors.{failure_of}
use Rattle.jskw_documents.specs.Shown.{IsLaterObject}
use Rattle.jskw_service.proofs.Parts.{IsWritten}
use Rattle.jskw_documents.proofs.errors.later_objects.Given as goal

-- what is written, with what is left to write
abbrev pub invariant-loop-error : goal.invariant-loop-error
invariant-loop-error l =
    IsWritten (IsLaterObject l.document.line) (failure_of decimal_tree) l.errors l.error-index l.text.items
