use Rattle.std.proofs.Common.{◌≡◌, ◌++◌, drop, false}
use Rattle.jskw_report.specs.EvaluationParts.{keywords_of}
use Rattle.jskw_c.specs.Evaluated.{strings_text}
use Rattle.jskw_c.proofs.evaluation.push_keywords.Given as goal

-- what is written, with the keywords that are left
abbrev pub invariant-loop-error : goal.invariant-loop-error
invariant-loop-error l =
    l.text.items ++ strings_text l.later (keywords_of (drop l.error-index l.errors))
    ≡ l.initial.text.items ++ strings_text false (keywords_of l.errors)
