use Rattle.std.proofs.Common.{◌≡◌, ℕ, Bool, Option, Some, None, option_map, refl, sym, ap, ◌∙◌, ℤ, if◌then◌else◌, rules}
use Rattle.fast_float.specs.Text.{Parts, with_sign}
use Rattle.jskw_value.specs.Number.{Num, exact, is_decimal}
use Rattle.jskw_text.specs.NumberText.{at_scale, scaled, decimal_of}
use Rattle.jskw_text.proofs.Numbers.{none_fits}
use Rattle.jskw_text.proofs.number.at_scale.Goals as goal

pub returns-in_err-size : goal.returns-in_err-size
unfolding at_scale
returns-in_err-size c =
    ap (option_map _) c.from_residual.ensures ∙ sym (none_fits c.args.negative c.args.scale _ c.in_err-size.ensures)

made : (negative : Bool) (p : Parts) (k n : ℕ) (c : ℤ) (o : Option Num)
    → o ≡ (if is_decimal c k then Some (exact c k) else None) → c ≡ with_sign negative n
    → scaled p k ≡ Some n → o ≡ at_scale negative p k
unfolding at_scale decimal_of
made negative p k n c o new signed found = new ∙ rw (found, signed) refl

pub returns : goal.returns
returns c =
    made c.args.negative c.args.numeral.now c.args.scale c.in_ok-size.size c.with_sign-coefficient.result _
    (search rules) c.with_sign-coefficient.ensures c.in_ok-size.ensures
