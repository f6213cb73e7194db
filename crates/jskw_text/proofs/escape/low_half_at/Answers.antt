use Rattle.std.proofs.Common.{◌≡◌, ◌+◌, get_or, true, arith, subst}
use Rattle.std.proofs.lemmas.List.{get_or_default}
use Rattle.json.specs.Lex.{in_string}
use Rattle.json.specs.Text.{after_high, is_low_surrogate, surrogate_pair}
use Rattle.jskw_text.specs.Escapes.{Escape}
use Rattle.jskw_text.proofs.Escapes.{low_read}
use Rattle.jskw_text.proofs.escape.low_half_at.Goals as goal

pub returns : goal.returns
returns c =
    let d = c.args.bytes.now in
    let i = c.args.at in
    let is = c.in_ok-low.ensures in
    let backslash : get_or d i 0 ≡ 92 = omega (arith, get_or_default d i 0 32 (omega (arith, is.within))) in
    let letter : get_or d (i + 1) 0 ≡ 117 = omega (arith, get_or_default d (i + 1) 0 32 (omega (arith, is.within))) in
    let small : is_low_surrogate c.in_ok-low.low ≡ true = grind arith in
    let pair : surrogate_pair c.args.high c.in_ok-low.low ≡ c.in_ok-character.character = grind arith in
    subst (λ x. Escape in_string (after_high c.args.high) d i (x, i + 6)) pair
    (low_read d i c.args.high c.in_ok-low.low backslash letter is small)
