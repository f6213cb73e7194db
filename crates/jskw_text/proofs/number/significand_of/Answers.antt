use Rattle.std.proofs.Common.{◌≡◌, ℕ, ◌+◌, ◌-◌, ◌*◌, ◌^◌, ◌≤◌, List, ◌++◌, length, take, inl, inr, ap, ap₂, sym, ◌∙◌}
use Rattle.std.proofs.Common.{subst, arith, length-append, mul-le-mul_left}
use Rattle.std.proofs.lemmas.Bool.{cases_lt}
use Rattle.std.specs.Str.Parse.{digits_value, AllDigits}
use Rattle.core.proofs.dec2flt.ExactLemmas.{ten_to_pos}
use Rattle.fast_float.specs.Text.{Parts, tens_up, tens_down}
use Rattle.jskw_text.specs.Tens.{EndsDigits, HasSignificand, IsShort, IsTooLarge}
use Rattle.jskw_text.proofs.Digits.{split, no_ten}
use Rattle.jskw_text.proofs.Numbers.{moved_up, moved_down, scaled_is}
use Rattle.jskw_text.proofs.number.significand_of.Goals as goal

-- the first digits, up to the last that is not 0, are the significand
significand : (p : Parts) (w f : List ℕ) (end : ℕ) → w ≡ p.whole → f ≡ p.fraction → AllDigits 10 (p.whole ++ p.fraction)
    → IsShort p → EndsDigits (w ++ f) end
    → HasSignificand p (digits_value 10 (take end (w ++ f))) (length w + length f - end)
significand p w f end whole fraction h fits e =
    let ds = w ++ f in
    let same : ds ≡ p.whole ++ p.fraction = ap₂ (λ x y. x ++ y) whole fraction in
    let long = length-append w f in
    let tens : 10 ^ (length ds - end) ≡ 10 ^ (length w + length f - end) = ap (λ n. 10 ^ (n - end)) long in
    record {
      digits = ap (digits_value 10) (sym same)
          ∙ omega (arith, split ds end, e.zeros, ap (λ x. digits_value 10 (take end ds) * x) tens);
      cut = no_ten ds end (subst (AllDigits 10) (sym same) h) e;
      short = omega (arith, ap length whole, ap length fraction);
    }

large : (p : Parts) (size zeros : ℕ) → HasSignificand p size zeros → 2 ^ 64 ≤ size → IsTooLarge p
large p size zeros h fits k =
    let a = zeros + (tens_up p + k) in
    let b = tens_down p in
    elim (cases_lt a b) [
      | inl down ↦ rw (scaled_is p size zeros k h ∙ moved_down size a b h.cut (omega arith) down) tt
      | inr up ↦ rw (scaled_is p size zeros k h ∙ moved_up size a b up)
          (omega (arith, mul-le-mul_left size (ten_to_pos (a - b))))
    ]

pub returns-in_err-size : goal.returns-in_err-size
returns-in_err-size c =
    let h =
    significand c.args.numeral.now c.whole-whole.result.now c.fraction-fraction.result.now c.last_digit-kept.result
    c.whole-whole.ensures.value c.fraction-fraction.ensures c.whole-whole.ensures.digits c.requires
    c.last_digit-kept.ensures in
    rw c.from_residual.ensures (large _ _ _ h (omega (arith, c.in_err-size.ensures)))

pub returns : goal.returns
returns c =
    let w = c.whole-whole.result.now in
    let f = c.fraction-fraction.result.now in
    let end = c.last_digit-kept.result in
    subst (λ s. HasSignificand c.args.numeral.now s (length w + length f - end)) (sym c.in_ok-size.ensures.1)
    (significand c.args.numeral.now w f end c.whole-whole.ensures.value c.fraction-fraction.ensures
    c.whole-whole.ensures.digits c.requires c.last_digit-kept.ensures)
