use Rattle.std.proofs.Common.{length}
use Rattle.jskw_text.proofs.spare.Spare.take_members.Given as goal

abbrev pub decreases-pairs : goal.decreases-pairs
decreases-pairs l = length l.pairs.items
