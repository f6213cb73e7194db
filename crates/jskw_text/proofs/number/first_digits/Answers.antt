use Rattle.std.proofs.Common.{◌≡◌, ℕ, ◌+◌, ◌-◌, ◌*◌, ◌^◌, ◌<◌, ◌≤◌, ◌++◌, List, length, take, get_or, ap}
use Rattle.std.proofs.Common.{◌∙◌, arith, length-append}
use Rattle.std.specs.Char.{digit_value}
use Rattle.std.specs.Str.Parse.{digits_value}
use Rattle.core.proofs.dec2flt.Rows.{value_mono}
use Rattle.core.proofs.str.DigitValues.{digits_value_more}
use Rattle.jskw_text.proofs.number.first_digits.Goals as goal

-- the first digits and one more
one_more : (whole fraction : List ℕ) (at : ℕ) → at < length whole + length fraction
    → digits_value 10 (take (at + 1) (whole ++ fraction))
    ≡ digits_value 10 (take at (whole ++ fraction)) * 10 + digit_value (get_or (whole ++ fraction) at 0)
one_more whole fraction at h = digits_value_more 10 (whole ++ fraction) at (omega (arith, length-append whole fraction))

-- more digits are worth no less
too_large : (whole fraction : List ℕ) (at count : ℕ) → at < count → count ≤ length whole + length fraction
    → (digits_value 10 (take (at + 1) (whole ++ fraction)) < 2 ^ 64 → ⊥)
    → digits_value 10 (take count (whole ++ fraction)) < 2 ^ 64 → ⊥
too_large whole fraction at count h l over less =
    let long = length-append whole fraction in
    over (omega (arith, value_mono (whole ++ fraction) (at + 1) count (omega arith) (omega arith)))

pub loop-at-init : goal.loop-at-init
loop-at-init c =
    let ds = c.args.whole.now ++ c.args.fraction.now in
    let z = c.skip_zeros.result in
    let long = length-append c.args.whole.now c.args.fraction.now in
    let none : digits_value 10 (take z ds) ≡ 0 =
    (let e : z ≡ z - 0 = omega arith in ap (λ n. digits_value 10 (take n ds)) e ∙ c.skip_zeros.ensures.zeros) in (
      omega (arith, none, value_mono ds c.min-at.result z (omega arith) (omega (arith, c.skip_zeros.ensures.within))),
      omega arith,
    )

pub returns-in_err-checked_mul : goal.returns-in_err-checked_mul
returns-in_err-checked_mul c =
    let next = one_more c.args.whole.now c.args.fraction.now c.loop-at.at (omega arith) in
    rw c.from_residual.ensures (too_large c.args.whole.now c.args.fraction.now c.loop-at.at c.args.count (omega arith)
    (omega arith) (λ less. c.in_err-checked_mul.ensures (omega (arith, next))))

pub returns-in_err-value : goal.returns-in_err-value
returns-in_err-value c =
    let next = one_more c.args.whole.now c.args.fraction.now c.loop-at.at (omega arith) in
    rw c.from_residual-in_err-value.ensures (too_large c.args.whole.now c.args.fraction.now c.loop-at.at c.args.count
    (omega arith) (omega arith) (λ less. c.in_err-value.ensures (omega (arith, next))))

pub loop-at-preserved : goal.loop-at-preserved
loop-at-preserved c =
    (omega (arith, one_more c.args.whole.now c.args.fraction.now c.loop-at.at (omega arith)), omega arith)

pub returns : goal.returns
returns c =
    let end : c.loop-at.at ≡ c.args.count = omega arith in
    let is = c.loop-at.invariant.0 ∙ ap (λ n. digits_value 10 (take n (c.args.whole.now ++ c.args.fraction.now))) end in
    (omega (arith, is), is)
