use Rattle.std.proofs.Common.{◌≡◌, ◌+◌, ◌-◌, drop, Some, option_map, option_and_then, true, ◌||◌, sym, ap, ◌∙◌}
use Rattle.std.proofs.Common.{arith, rules}
use Rattle.json.specs.Word.{is_operator, is_space, ends_word, after_fraction, after_exponent}
use Rattle.jskw_value.specs.Decimal.{value}
use Rattle.jskw_text.proofs.FewDigits.{made}
use Rattle.jskw_text.proofs.ShortNumbers.{head_is, exponent_passed, fraction_passed, fraction_denotes}
use Rattle.jskw_text.proofs.scan.with_fraction.Goals as goal

pub returns : goal.returns
returns c =
    let d = c.args.bytes.now in
    let start = c.args.start in
    let point = c.args.point in
    let read = c.read_digits-end in
    let end = read.result.0 in
    let x = c.in_ok-decimal.decimal in
    let n = end - (point + 1) in
    let more : point + 1 + n ≡ end = omega (arith, read.ensures.end) in
    let is : c.from_parts.result ≡ Some x = search rules in
    let made_is : option_map value (Some x) ≡ made c.args.is_negative read.result.1 (end - point - 1) =
    ap (option_map value) (sym is) ∙ c.from_parts.ensures in
    let ended : ends_word (drop end d) ≡ true =
    ap (λ b. is_operator b || is_space b) (sym c.byte_at.ensures.head) ∙ search rules in
    let fraction =
    fraction_passed d point n (head_is d point ∙ c.requires.point) (omega (arith, read.ensures.end)) (omega arith) in
    record {
      within = read.ensures.within;
      forward = omega arith;
      passed = ap (λ o. option_and_then after_exponent (option_and_then after_fraction o)) c.requires.passed
          ∙ ap (option_and_then after_exponent) (fraction ∙ ap (λ k. Some (drop k d)) more)
          ∙ exponent_passed (drop end d) ended;
      denotes = fraction_denotes d start c.args.is_negative (Some x) point c.args.whole (omega arith) c.requires.some
          (omega arith) c.requires.digits c.requires.whole end read.result.1 read.ensures.within (omega arith)
          (omega arith) c.requires.point (omega (arith, read.ensures.end)) read.ensures.value made_is;
      ended = ended;
    }
