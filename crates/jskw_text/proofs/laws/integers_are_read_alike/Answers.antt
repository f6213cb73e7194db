use Rattle.jskw_text.proofs.Alike.{read_alike}
use Rattle.jskw_text.proofs.laws.integers_are_read_alike.Goals as goal

pub returns : goal.returns
returns c = read_alike
