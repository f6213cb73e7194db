use Rattle.jskw_unchecked.proofs.Coverage.{empty_list_covers}
use Rattle.jskw_unchecked.proofs.laws.every_member_is_covered.Goals as goal

pub returns : goal.returns
returns c = empty_list_covers
