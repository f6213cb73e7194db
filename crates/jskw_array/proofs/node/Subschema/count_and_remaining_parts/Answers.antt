use Rattle.std.proofs.Common.{◌∙◌, subst, sym}
use Rattle.std.proofs.lemmas.List.{take_rest}
use Rattle.jskw_array.specs.Words.{Remain}
use Rattle.jskw_array.proofs.PartsLeft.{behind_held, known_parts, schema_by_parts}
use Rattle.jskw_array.proofs.node.Subschema.count_and_remaining_parts.Goals as goal

pub returns-then-contains-clause-parts : goal.returns-then-contains-clause-parts
returns-then-contains-clause-parts g c =
    let n = c.self.inside in
    let t = g.F.Node.Rooted.tree c.args.instance.now in
    let us = c.as_slice-parts.result.now in
    let value = c.as_slice-parts.ensures.value in
    let b = n.accepted.settled in
    let known = (known_parts c.in-Keywords.is value n.accepted c.self.invariant.1).0 in
    subst (Remain c.args.self.now t) (sym (take_rest us b.count))
    (behind_held c.args.self.now n.location n.delegates us b.count t
    (schema_by_parts c.in-Keywords.is value c.self.view_is)
    (known.settled.1 t (sym c.contains.ensures ∙ c.if-contains.true)))
