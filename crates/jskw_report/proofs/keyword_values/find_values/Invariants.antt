use Rattle.serde_json.specs.View.{members_view}
use Rattle.jskw_report.specs.Found.{values_in}
use Rattle.jskw_report.proofs.FoundKeywords.{AreFound}
use Rattle.jskw_report.proofs.keyword_values.find_values.Given as goal

abbrev pub invariant-loop-name : goal.invariant-loop-name
invariant-loop-name l = AreFound (values_in l.values) (members_view l.parent.entries) (members_view l.name-iterator)
