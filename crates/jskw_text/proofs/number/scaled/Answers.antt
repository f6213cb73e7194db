use Rattle.std.proofs.Common.{◌≡◌, ℕ, ◌+◌, ◌-◌, ◌*◌, ◌^◌, ◌<◌, ◌≤◌, min, Option, Some, None, IfSome, MatchOption, sym}
use Rattle.std.proofs.Common.{ap, ◌∙◌, arith, lit<, mul-le-mul_right}
use native.Mathlib.Nat.{pow-le-pow_right}
use Rattle.std.specs.Option.{SomeIff}
use Rattle.core.proofs.dec2flt.ExactLemmas.{ten_to_pos}
use Rattle.fast_float.specs.Text.{Parts, tens_up, tens_down}
use Rattle.jskw_text.specs.NumberText.{scaled}
use Rattle.jskw_text.specs.Tens.{HasSignificand, HasTens}
use Rattle.jskw_text.proofs.Numbers.{quotient_is, moved_up, moved_down, scaled_is}
use Rattle.jskw_text.proofs.number.scaled.Goals as goal

-- the saturated tens compare as the true ones do
fewer : (f u v up down z k : ℕ) → f < 2 ^ 63 → up ≡ min u (2 ^ 64 - 1) → down ≡ f + min (v - f) (2 ^ 64 - 1)
    → min u (v - f) ≡ 0 → f ≤ v → z < 2 ^ 63 → k ≤ 18
    → up + z + k < down → z + (u + k) < v
fewer f u v up down z k a b c d e g h less = omega arith

-- and differ by as many, or by more than 19
many : (f u v up down z k : ℕ) → f < 2 ^ 63 → up ≡ min u (2 ^ 64 - 1) → down ≡ f + min (v - f) (2 ^ 64 - 1)
    → min u (v - f) ≡ 0 → f ≤ v → z < 2 ^ 63 → k ≤ 18
    → down ≤ up + z + k → (v ≤ z + (u + k)) × (min (z + (u + k) - v) 20 ≡ min (up + z + k - down) 20)
many f u v up down z k a b c d e g h more = (omega arith, omega arith)

-- where they are no fewer, the number is whole at the scale
raised : (p : Parts) (up down s z k : ℕ) → HasTens p up down → HasSignificand p s z → k ≤ 18 → down ≤ up + z + k
    → (scaled p k ≡ Some (s * 10 ^ (z + (tens_up p + k) - tens_down p)))
    × (min (z + (tens_up p + k) - tens_down p) 20 ≡ min (up + z + k - down) 20)
raised p up down s z k tens digits scale more =
    let h =
    many _ (tens_up p) (tens_down p) up down z k tens.short tens.up_is tens.down_is tens.one tens.behind digits.short
    scale more in
    (scaled_is p s z k digits ∙ moved_up s (z + (tens_up p + k)) (tens_down p) h.0, h.1)

none_or_large : (q : Option ℕ) → q ≡ None → IfSome q (λ n. 2 ^ 64 ≤ n)
none_or_large None e = tt
none_or_large (Some n) e = absurd (cc)

large : (q : Option ℕ) (n : ℕ) → q ≡ Some n → 2 ^ 64 ≤ n → IfSome q (λ n. 2 ^ 64 ≤ n)
large q n e h = rw e h

found : (o q : Option ℕ) (n m : ℕ) → SomeIff o (n < 2 ^ 64) n → q ≡ Some m → n ≡ m
    → MatchOption o (IfSome q (λ n. 2 ^ 64 ≤ n)) (λ n. q ≡ Some n)
found None q n m h e s = large q m e (omega (arith, not_less h))
  where
    not_less : {n : ℕ} → (n < 2 ^ 64 → ⊥) → 2 ^ 64 ≤ n
    not_less h = search (arith, h)
found (Some x) q n m h e s = e ∙ ap Some (sym (h.1 ∙ s))

pub returns-then-significand-eq0 : goal.returns-then-significand-eq0
returns-then-significand-eq0 c =
    let p = c.args.numeral.now in
    let z = c.args.significand.zeros in
    let s = c.args.significand.size in
    let a = z + (tens_up p + c.args.scale) in
    let none : s * 10 ^ a ≡ 0 * 10 ^ tens_down p + 0 = omega (arith, ap (λ x. x * 10 ^ a) c.if-significand-eq0.true) in
    scaled_is p s z c.args.scale c.requires.digits ∙ quotient_is (s * 10 ^ a) 0 0 (10 ^ tens_down p) none (ten_to_pos _)

pub returns-then-up-down : goal.returns-then-up-down
returns-then-up-down c =
    let p = c.args.numeral.now in
    let z = c.args.significand.zeros in
    let s = c.args.significand.size in
    let h = c.tens-up.ensures in
    let some : 0 < s = omega arith in
    let less =
    fewer _ (tens_up p) (tens_down p) c.tens-up.result.0 c.tens-up.result.1 z c.args.scale h.short h.up_is h.down_is
    h.one h.behind c.requires.digits.short c.requires.scale c.if-up-down.true in
    none_or_large _ (scaled_is p s z c.args.scale c.requires.digits
    ∙ moved_down s (z + (tens_up p + c.args.scale)) (tens_down p) c.requires.digits.cut some less)

pub returns-then-zeros-gt19 : goal.returns-then-zeros-gt19
returns-then-zeros-gt19 c =
    let p = c.args.numeral.now in
    let n = c.args.significand in
    let zeros = n.zeros + (tens_up p + c.args.scale) - tens_down p in
    let h =
    raised p _ _ n.size n.zeros c.args.scale c.tens-up.ensures c.requires.digits c.requires.scale c.if-up-down.false in
    let some : 1 ≤ n.size = omega arith in
    let tens : 10 ^ 20 ≤ 10 ^ zeros = pow-le-pow_right (lit< tt) {i = 20} (omega (arith, h.1, c.if-zeros-gt19.true)) in
    large _ _ h.0 (omega (arith, tens, mul-le-mul_right (10 ^ zeros) some))

pub returns : goal.returns
returns c =
    let n = c.args.significand in
    let h =
    raised c.args.numeral.now _ _ n.size n.zeros c.args.scale c.tens-up.ensures c.requires.digits c.requires.scale
    c.if-up-down.false in
    let zeros = n.zeros + (tens_up c.args.numeral.now + c.args.scale) - tens_down c.args.numeral.now in
    let same : c.tens-up.result.0 + n.zeros + c.args.scale - c.tens-up.result.1 ≡ zeros =
    omega (arith, h.1, c.if-zeros-gt19.false) in
    found c.checked_mul.result _ _ _ c.checked_mul.ensures h.0
    (ap (λ x. n.size * x) (c.ten_to.ensures ∙ ap (λ n. 10 ^ n) same))
