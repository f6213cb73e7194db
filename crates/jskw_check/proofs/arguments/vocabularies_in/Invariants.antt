use Rattle.std.proofs.Common.{◌≡◌, length}
use Rattle.std.specs.List.{slice_split}
use denote.Text.{Utf8}
use denote.Shadow.{shadow}
use Rattle.jskw_report.specs.Setting.{no_vocabulary}
use Rattle.jskw_check.specs.Arguments.{is_comma, names_of, with_names}
use Rattle.jskw_check.proofs.arguments.vocabularies_in.Given as goal

-- what the rest names is added to what is named
abbrev pub invariant-names : goal.invariant-names
invariant-names l = record {
  text : shadow (Utf8 l.rest);
  names : with_names l.vocabularies (slice_split is_comma l.rest) ≡ with_names no_vocabulary (names_of l.list);
}

abbrev pub decreases-names : goal.decreases-names
decreases-names l = length l.rest
