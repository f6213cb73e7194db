use Rattle.std.proofs.Common.{sym, ◌∙◌}
use Rattle.jskw_leaf.proofs.Options.{no_option}
use Rattle.jskw_leaf.proofs.enum_.EnumValidatorAssertion.holds.Goals as goal

pub returns-else-contains_value_type : goal.returns-else-contains_value_type
returns-else-contains_value_type g c =
    c.if-contains_value_type.false ∙ sym
    (no_option _ _ _ c.args.self.now.typed (sym c.contains_value_type.ensures ∙ c.if-contains_value_type.false))
