use Rattle.std.proofs.Common.{sym, ◌∙◌}
use Rattle.jskw_report.specs.Read.{asserted}
use Rattle.jskw_leaf.proofs.required.compilation.compile.Goals as goal

pub returns-then-is_handed_on : goal.returns-then-is_handed_on
unfolding asserted
returns-then-is_handed_on g c = rw (sym c.is_handed_on.ensures ∙ c.if-is_handed_on.true) tt

pub returns : goal.returns
unfolding asserted
returns g c = rw (sym c.is_handed_on.ensures ∙ c.if-is_handed_on.false) c.compile_checked.ensures
