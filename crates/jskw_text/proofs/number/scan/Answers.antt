use Rattle.std.proofs.Common.{◌≡◌, ℕ, ◌+◌, ◌<◌, ◌≤◌, ◌^◌, length, ap, arith}
use Rattle.fast_float.specs.Text.{Parts}
use Rattle.fast_float.proofs.Reading.{scan_numeral-digits_fit}
use Rattle.jskw_text.specs.Tens.{IsShort}
use Rattle.jskw_text.proofs.number.scan.Goals as goal

within : (p q : Parts) (n : ℕ) → p ≡ q → length q.whole + length q.fraction ≤ q.len → p.len ≤ n → n < 2 ^ 63 → IsShort p
within p q n e h l fits = rw e (omega (arith, h, ap (λ x. x.len) e))

pub returns-clause-short : goal.returns-clause-short
returns-clause-short c =
    within _ _ _ c.scan.ensures.parts (scan_numeral-digits_fit c.args.bytes.now) c.scan.ensures.within (omega arith)
