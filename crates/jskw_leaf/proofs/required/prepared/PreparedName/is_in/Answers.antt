use Rattle.std.proofs.Common.{◌∙◌, ap}
use Rattle.jskw_value.specs.Tree.{get}
use Rattle.jskw_leaf.proofs.Lookups.{found_by_key}
use Rattle.jskw_leaf.proofs.required.prepared.PreparedName.is_in.Goals as goal

pub returns : goal.returns
returns g c =
    let t = g.F.Node.Rooted.tree c.args.object.now in
    c.is_some.ensures
    ∙ found_by_key _ _ _ t (c.get.ensures.value ∙ ap (λ k. get k t) (c.self.invariant ∙ c.self.view_is))
