use Rattle.std.proofs.Common.{◌≡◌, ◌+◌, true, false, subst, arith}
use Rattle.json.specs.Lex.{in_string}
use Rattle.json.specs.Text.{after_u, is_high_surrogate, is_low_surrogate}
use Rattle.jskw_text.specs.Escapes.{Escape}
use Rattle.jskw_text.proofs.Escapes.{high_read, unicode_read}
use Rattle.jskw_text.proofs.Lexemes.{if_some}
use Rattle.jskw_text.proofs.escape.unicode_at.Goals as goal

pub overflow_add-at : goal.overflow_add-at
overflow_add-at c = omega (arith, c.in_ok-unit.ensures.within)

pub overflow_add-result : goal.overflow_add-result
overflow_add-result c = omega (arith, c.in_ok-unit.ensures.within)

pub returns-then-unit-lt56320 : goal.returns-then-unit-lt56320
returns-then-unit-lt56320 c =
    let high : is_high_surrogate c.in_ok-unit.unit ≡ true = grind arith in
    if_some _ _ c.low_half_at.result
    (λ p. high_read c.args.bytes.now c.args.at c.in_ok-unit.unit p c.in_ok-unit.ensures high) c.low_half_at.ensures

pub returns : goal.returns
returns c =
    let high : is_high_surrogate c.in_ok-unit.unit ≡ false = grind arith in
    let low : is_low_surrogate c.in_ok-unit.unit ≡ false = grind arith in
    let same : c.in_ok-unit.unit ≡ c.in_ok-from_u32.field-0 = grind arith in
    subst (λ x. Escape in_string after_u c.args.bytes.now c.args.at (x, c.args.at + 4)) same
    (unicode_read c.args.bytes.now c.args.at c.in_ok-unit.unit c.in_ok-unit.ensures high low)
