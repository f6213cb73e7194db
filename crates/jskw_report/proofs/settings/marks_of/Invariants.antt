use Rattle.std.proofs.Common.{map, string_bytes}
use Rattle.jskw_report.proofs.OverriddenKeywords.{AreMarked}
use Rattle.jskw_report.proofs.settings.marks_of.Given as goal

abbrev pub invariant-loop-i : goal.invariant-loop-i
invariant-loop-i l = AreMarked (map string_bytes l.names) l.i l.marks
