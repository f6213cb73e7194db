use Rattle.std.proofs.Common.{◌≡◌, ◌+◌, ◌-◌, ◌*◌, ◌%◌, ◌^◌, ◌<◌, ◌≤◌, drop, get_or, length, option_map, subst, arith}
use Rattle.std.proofs.Common.{rules}
use Rattle.std.specs.List.{slice_range}
use Rattle.std.specs.Str.Parse.{digits_value}
use Rattle.std.specs.Float.Numeral.{digits_len}
use Rattle.jskw_value.specs.Decimal.{value}
use Rattle.jskw_text.proofs.FewDigits.{made, whole_read, whole_value, fraction_read}
use Rattle.jskw_text.proofs.number.few_digits.Goals as goal

pub returns-then-point-bytes : goal.returns-then-point-bytes
returns-then-point-bytes c =
    let t = c.args.bytes.now in
    let read = c.read_digits-point in
    let end : read.result.0 ≡ length t = search rules in
    let all : digits_len t ≡ length t = omega (arith, read.ensures.end, end) in
    let some : 0 < length t = search rules in
    let few : length t ≤ 19 = omega arith in
    whole_read t all c.args.is_negative read.result.1 c.from_parts.result some few
    (whole_value t read.result.0 read.result.1 end read.ensures.value) c.from_parts.ensures

pub returns : goal.returns
returns c =
    let t = c.args.bytes.now in
    let a = c.read_digits-point.result.0 in
    let whole = c.read_digits-point.result.1 in
    let read = c.read_digits-end in
    let front : digits_len t ≡ a = omega (arith, c.read_digits-point.ensures.end) in
    let point : get_or t a 0 ≡ 46 = search rules in
    let end : read.result.0 ≡ length t = omega (arith, read.ensures.within) in
    let rest : a + 1 + digits_len (drop (a + 1) t) ≡ length t = omega (arith, read.ensures.end, end) in
    let some : a + 1 < length t = omega (arith, end) in
    let few : length t ≤ 19 = omega arith in
    let size =
    subst (λ n. read.result.1 ≡ (whole * 10 ^ (n - (a + 1)) + digits_value 10 (slice_range t (a + 1) n)) % 2 ^ 64)
    end read.ensures.value in
    let made_at =
    subst (λ n. option_map value c.from_parts-2.result ≡ made c.args.is_negative read.result.1 (n - a - 1)) end
    c.from_parts-2.ensures in
    fraction_read t a front point rest c.args.is_negative whole read.result.1 c.from_parts-2.result some few
    c.read_digits-point.ensures.value size made_at
