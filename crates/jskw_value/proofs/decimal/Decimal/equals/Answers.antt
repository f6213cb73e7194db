use Rattle.std.proofs.Common.{rules, ◌≡◌, ◌∙◌, int_eq, nat_eq, of_z, ap₂}
use Rattle.std.specs.Int.{w128}
use Rattle.jskw_value.proofs.Numbers.{same_scale}
use Rattle.jskw_value.proofs.decimal.Decimal.equals.Goals as goal

pub returns-then-self-other : goal.returns-then-self-other
returns-then-self-other c =
    let a = c.coefficient in
    let b = c.coefficient-then-self-other in
    let bits : nat_eq (of_z w128 a.result) (of_z w128 b.result) ≡ int_eq a.result b.result = search rules in
    bits ∙ ap₂ int_eq a.ensures.value b.ensures.value ∙ same_scale _ _ _ _ c.if-self-other.true
