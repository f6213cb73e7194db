use Rattle.std.proofs.Common.{option_map, sym, ap, ◌∙◌}
use Rattle.jskw_value.specs.Decimal.{value}
use Rattle.jskw_text.proofs.Numbers.{none_from}
use Rattle.jskw_text.proofs.number.decimal_from.Goals as goal

pub returns-in_err-significand : goal.returns-in_err-significand
returns-in_err-significand c =
    ap (option_map value) c.from_residual.ensures
    ∙ sym (none_from c.args.negative c.args.numeral.now c.in_err-significand.ensures)
