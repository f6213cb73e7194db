use Rattle.jskw_wanted.proofs.Pruned.{the_law}
use Rattle.jskw_wanted.proofs.laws.pruned_alike.Goals as goal

pub returns : goal.returns
returns c = the_law
