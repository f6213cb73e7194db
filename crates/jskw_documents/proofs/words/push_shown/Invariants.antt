use Rattle.std.proofs.Common.{◌≡◌, ◌++◌, length}
use Rattle.jskw_documents.specs.Shown.{shown, shown_behind}
use Rattle.jskw_documents.proofs.words.push_shown.Given as goal

-- what is written, with what is left of the words
abbrev pub invariant-words : goal.invariant-words
invariant-words l = l.text.items ++ shown_behind l.passed l.rest ≡ l.initial.text.items ++ shown l.words

abbrev pub decreases-words : goal.decreases-words
decreases-words l = length l.rest
