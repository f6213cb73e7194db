use Rattle.std.proofs.Common.{◌∙◌, sym}
use Rattle.jskw_number.proofs.EmptySets.{nothing_in}
use Rattle.jskw_number.proofs.quick_set.QuickSet.is_empty.Goals as goal

pub returns-else-not-self : goal.returns-else-not-self
returns-else-not-self c =
    λ turned. nothing_in c.args.self.now (sym c.ne.ensures ∙ c.if-ne.false) (λ limited. sym c.is_empty.ensures ∙ turned)
