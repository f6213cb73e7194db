use Rattle.jskw_value.specs.DecimalTree.{decimal_tree}
use Rattle.jskw_report.specs.Errors.{failure_of}
use Rattle.jskw_service.proofs.Parts.{IsWritten}
use Rattle.jskw_c.specs.Line.{IsErrorLine}
use Rattle.jskw_c.proofs.line.error_lines.Given as goal

-- what is written, with the lines of the errors that are left
abbrev pub invariant-loop-error : goal.invariant-loop-error
invariant-loop-error l =
    IsWritten IsErrorLine (failure_of decimal_tree) l.errors l.error-index l.text.items
