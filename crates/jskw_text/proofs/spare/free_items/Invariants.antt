use Rattle.std.proofs.Common.{length}
use Rattle.jskw_text.proofs.spare.free_items.Given as goal

abbrev pub decreases-items : goal.decreases-items
decreases-items l = length l.items.items
