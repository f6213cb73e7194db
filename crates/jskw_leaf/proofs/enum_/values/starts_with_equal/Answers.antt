use Rattle.std.proofs.Common.{arith, sym, ◌∙◌}
use Rattle.jskw_leaf.proofs.OptionFingerprints.{run_over}
use Rattle.jskw_leaf.proofs.enum_.values.starts_with_equal.Goals as goal

pub returns-then-option-fingerprint : goal.returns-then-option-fingerprint
returns-then-option-fingerprint g c =
    sym (sym c.loop-option.invariant
    ∙ run_over _ _ _ _ c.option-item.result c.requires (omega arith) c.option-item.is c.if-option-fingerprint.true)
