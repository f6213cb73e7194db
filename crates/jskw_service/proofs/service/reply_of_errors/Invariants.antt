use Rattle.std.proofs.Common.{◌≡◌, ◌++◌, drop, string_bytes}
use Rattle.jskw_value.specs.Serde.{value_tree}
use Rattle.jskw_report.specs.Errors.{failures_of}
use Rattle.jskw_service.specs.Answer.{error_lines}
use Rattle.jskw_service.proofs.service.reply_of_errors.Given as goal

-- the lines so far, with those that are left
abbrev pub invariant-loop-error : goal.invariant-loop-error
invariant-loop-error l =
    string_bytes l.text ++ error_lines (failures_of value_tree (drop l.error-index l.found))
    ≡ error_lines (failures_of value_tree l.found)
