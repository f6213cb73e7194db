use Rattle.std.proofs.Common.{◌≡◌, drop, get_or, true, false, ◌==◌, sym, ap, ◌∙◌, arith, take_all, length-drop}
use Rattle.fast_float.specs.Text.{scan}
use Rattle.jskw_text.specs.NumberText.{number_of, decimal_from}
use Rattle.jskw_text.proofs.number.split_sign.Goals as goal

pub returns-then-has_minus : goal.returns-then-has_minus
unfolding number_of
returns-then-has_minus c =
    let s = c.args.bytes.now in
    let signed : (get_or s 0 0 == 45) ≡ true = sym c.if-has_minus.ensures.value in
    let read : decimal_from true (scan (drop 1 s)) ≡ number_of s = rw signed in
    ap (λ ds. decimal_from true (scan ds)) (take_all _ (drop 1 s) (omega (arith, length-drop 1 s))) ∙ read

pub returns-else-has_minus : goal.returns-else-has_minus
unfolding number_of
returns-else-has_minus c =
    let s = c.args.bytes.now in
    let unsigned : (get_or s 0 0 == 45) ≡ false = sym c.if-has_minus.ensures.value in
    rw unsigned
