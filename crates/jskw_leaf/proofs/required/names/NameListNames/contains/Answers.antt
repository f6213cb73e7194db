use Rattle.jskw_leaf.proofs.NameMarks.{table_tells}
use Rattle.jskw_leaf.proofs.required.names.NameListNames.contains.Goals as goal
use Rattle.std.proofs.Common.{◌∙◌}

pub returns : goal.returns
returns g c =
    rw (← c.self.view_is)
    ((rw c.deref.ensures.value at c.is_in_table.ensures) ∙ table_tells _ _ c.args.text.now c.self.invariant.same)
