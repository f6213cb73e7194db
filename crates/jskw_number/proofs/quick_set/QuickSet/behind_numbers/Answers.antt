use Rattle.std.proofs.Common.{◌≡◌, ◌∙◌, ap, arith, refl, sym}
use Rattle.std.specs.Int.NonZero.{non_zero_u64_get}
use Rattle.jskw_value.specs.Tree.{number}
use Rattle.jskw_number.specs.QuickSet.{encloses}
use Rattle.jskw_number.proofs.QuickSets.{enclosed_is_in}
use Rattle.jskw_number.proofs.quick_set.QuickSet.behind_numbers.Goals as goal

pub behind-requires-then-self-clause-part : goal.behind-requires-then-self-clause-part
behind-requires-then-self-clause-part g c =
    let q = c.args.self.now in
    let one : non_zero_u64_get q.integers.divisor ≡ 1 = omega (arith, c.get.ensures.value, c.if-get-ne1.false) in
    let ends = c.ends.ensures in
    λ n h.
    enclosed_is_in q (number n) n ends.low ends.high c.requires.limited c.if-self.true one refl
    (ap (λ r. encloses r n) (sym ends.range) ∙ h)
