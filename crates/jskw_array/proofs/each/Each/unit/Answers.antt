use Rattle.std.proofs.Common.{rules, ◌∙◌, ap₂, sym, length}
use Rattle.jskw_array.specs.Words.{items, of_children, prefix_annotation}
use Rattle.jskw_array.proofs.ValidatorMeanings.{prefix_unit_is}
use Rattle.jskw_array.proofs.each.Each.unit.Goals as goal

pub returns-then-self : goal.returns-then-self
returns-then-self g c p made =
    let v = c.args.self.now in
    let instance = g.F.Node.Rooted.tree c.args.instance.now in
    c.prefix_unit.ensures
    ∙ ap₂ (λ k es. of_children (prefix_annotation k (length (items instance))) es) (c.len.ensures ∙ v.nodes.ok.0) made
    ∙ sym (prefix_unit_is v (search (rules, c.if-self.true)) instance p)
