use Rattle.std.proofs.Common.{◌≡◌, true, subst}
use Rattle.jskw_array.specs.Words.{holds}
use Rattle.jskw_array.proofs.PartsLeft.{accepts_all}
use Rattle.jskw_array.proofs.node.Subschema.values.Goals as goal

pub returns : goal.returns
returns g c t h =
    let n = c.self.inside in
    subst (λ r. holds r t ≡ true) c.self.view_is
    (accepts_all n.accepted n.assertions c.self.invariant.1 n.location n.delegates t h)
