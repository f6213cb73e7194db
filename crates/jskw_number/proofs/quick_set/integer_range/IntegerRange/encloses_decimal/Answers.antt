use Rattle.std.proofs.Common.{rules, ◌≡◌, ◌&&◌, ◌*ℤ◌, ◌^◌, ◌∙◌, ap₂, pos}
use Rattle.std.specs.Ordering.{is_ge, is_le}
use Rattle.jskw_value.specs.Decimal.{coefficient}
use Rattle.jskw_value.specs.Number.{cmp_whole}
use Rattle.jskw_number.proofs.Limits.{order_ge, order_le}
use Rattle.jskw_number.proofs.quick_set.integer_range.IntegerRange.encloses_decimal.Goals as goal

pub returns : goal.returns
returns c =
    let number = c.args.number in
    let range = c.args.self.now in
    let above : c.is_ge.result ≡ is_ge (cmp_whole (coefficient number) number.scale range.low) = search rules in
    let below : c.is_le.result ≡ is_le (cmp_whole (coefficient number) number.scale range.high) = search rules in
    ap₂ (λ a b. a && b) (above ∙ order_ge (coefficient number) (range.low *ℤ pos (10 ^ number.scale)))
    (below ∙ order_le (coefficient number) (range.high *ℤ pos (10 ^ number.scale)))
