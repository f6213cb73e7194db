use Rattle.jskw_value.proofs.Fingerprints.{equal_fingerprint}
use Rattle.jskw_value.proofs.laws.equal_values_have_one_fingerprint.Goals as goal

pub returns : goal.returns
returns c = equal_fingerprint
