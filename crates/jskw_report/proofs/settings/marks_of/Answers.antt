use Rattle.jskw_report.proofs.OverriddenKeywords.{all_marked, next_marked}
use Rattle.jskw_report.proofs.settings.marks_of.Goals as goal

pub loop-i-preserved : goal.loop-i-preserved
loop-i-preserved c =
    rw c.is_among.ensures (next_marked _ _ _ _ _ c.loop-i-test.true c.as_str.ensures c.loop-i.invariant)

pub returns : goal.returns
returns c = all_marked _ _ _ c.loop-i-test.false c.loop-i.invariant
