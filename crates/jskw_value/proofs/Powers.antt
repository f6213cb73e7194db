-- Powers of ten.
use Rattle.std.proofs.Common.{◌≡◌, ℕ, zero, suc, ◌+◌, ◌^◌, ◌≤◌, ◌<◌, ◌==◌, ◌&&◌, List, [], ◌∷◌, Bool, true, length}
use Rattle.std.proofs.Common.{get_or, ap, refl, lit<, ◌∙◌, arith}
use Rattle.std.proofs.lemmas.Bool.{and_parts}
use Rattle.std.proofs.lemmas.Bool.Decides.{Decides-eqb}
use Rattle.std.proofs.Math.Nat.{pow-le-pow_right, one-le-pow}
use Rattle.jskw_value.specs.declared.decimal.TheConstants.{POWERS}

-- at least one
pub ten_pow_low : (k : ℕ) → 1 ≤ 10 ^ k
ten_pow_low k = one-le-pow k 10 (lit< tt)

-- at most that of the greatest scale
pub ten_pow_high : (k : ℕ) → k ≤ 18 → 10 ^ k ≤ 10 ^ 18
ten_pow_high k h = pow-le-pow_right (lit< tt) h

-- the numbers are the powers of ten from 10^k on
abbrev are_powers : ℕ → List ℕ → Bool
are_powers k [] = true
are_powers k (x ∷ xs) = (x == 10 ^ k) && are_powers (suc k) xs

power_at : (xs : List ℕ) (k i : ℕ) → are_powers k xs ≡ true → i < length xs → get_or xs i 0 ≡ 10 ^ (k + i)
power_at [] k i p l = absurd (omega (arith, l))
power_at (x ∷ xs) k zero p l =
    let here : k ≡ k + zero = omega arith in
    (Decides-eqb x (10 ^ k)).0 (and_parts (x == 10 ^ k) (are_powers (suc k) xs) p).0 ∙ ap (λ n. 10 ^ n) here
power_at (x ∷ xs) k (suc i) p l =
    let next : suc k + i ≡ k + suc i = omega arith in
    power_at xs (suc k) i (and_parts (x == 10 ^ k) (are_powers (suc k) xs) p).1 (omega (arith, l))
    ∙ ap (λ n. 10 ^ n) next

-- the table of the code has each of them at the place of its exponent
pub power_in_table : (k : ℕ) → k ≤ 18 → get_or POWERS k 0 ≡ 10 ^ k
power_in_table k h =
    let same : 0 + k ≡ k = omega arith in
    power_at POWERS 0 k refl (omega (arith, h)) ∙ ap (λ n. 10 ^ n) same
