use Rattle.std.proofs.Common.{◌≡◌, ◌+◌, ◌-◌, drop, Some, option_map, true, refl, ◌||◌, sym, ap, ◌∙◌}
use Rattle.std.proofs.Common.{arith, rules}
use Rattle.json.specs.Word.{is_operator, is_space, ends_word}
use Rattle.jskw_value.specs.Decimal.{value}
use Rattle.jskw_text.proofs.FewDigits.{made}
use Rattle.jskw_text.proofs.ShortNumbers.{whole_passed, whole_unsigned}
use Rattle.jskw_text.proofs.scan.unsigned_at.Goals as goal

pub with_fraction-requires-clause-passed : goal.with_fraction-requires-clause-passed
with_fraction-requires-clause-passed c =
    let d = c.args.bytes.now in
    let point = c.read_digits-point.result.0 in
    let few = c.if-not-are_few.ensures in
    let n = point - c.args.start in
    let more : c.args.start + n ≡ point = omega (arith, c.read_digits-point.ensures.end) in
    whole_passed d c.args.start n (omega (arith, c.read_digits-point.ensures.end)) (few.some refl) (few.zero refl)
    ∙ ap (λ k. Some (drop k d)) more

pub returns : goal.returns
returns c =
    let d = c.args.bytes.now in
    let start = c.args.start in
    let read = c.read_digits-point in
    let point = read.result.0 in
    let few = c.if-not-are_few.ensures in
    let x = c.in_ok-decimal.decimal in
    let is : c.from_parts.result ≡ Some x = search rules in
    let made_is : option_map value (Some x) ≡ made c.args.is_negative read.result.1 0 =
    ap (option_map value) (sym is) ∙ c.from_parts.ensures in
    let ended : ends_word (drop point d) ≡ true =
    ap (λ b. is_operator b || is_space b) (sym c.byte_at-2.ensures.head) ∙ search rules in
    whole_unsigned d start point c.args.is_negative read.result.1 x read.ensures.within
    (omega (arith, few.some refl)) (omega (arith, few.few refl)) read.ensures.end (few.zero refl) ended
    read.ensures.value made_is
