use Rattle.std.proofs.Common.{[], ◌∙◌, not, ap}
use Rattle.jskw_leaf.proofs.NameMarks.{marked_name}
use Rattle.jskw_leaf.proofs.required.lookup.is_missing.Goals as goal

pub returns-in-Some : goal.returns-in-Some
returns-in-Some g c =
    ap not (c.has_bit.ensures ∙ marked_name c.in-Some.found (g.F.Node.Rooted.tree c.args.object.now)
    (g.L.Names.names c.args.names.now) c.args.index [] (rw c.in-Some.is at c.requires.marks) c.requires.index)
