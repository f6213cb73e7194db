-- Fingerprints of numbers: by their mathematical value.
use Rattle.std.proofs.Common.{◌≡◌, ℕ, zero, suc, ◌+◌, ◌-◌, ◌*◌, ◌/◌, ◌%◌, ◌^◌, ◌<◌, ◌≤◌, refl, sym, ap, ap₂, ◌∙◌, arith}
use Rattle.std.proofs.Common.{pos, negsuc, ◌*ℤ◌, ℤ, Bool, true, false, nat_lt, Some, None, option_and_then}
use Rattle.std.proofs.Common.{if◌then◌else◌}
use Rattle.std.proofs.Math.Nat.{mul_right_comm, mul_comm, mul_assoc, mul-div_cancel, div-div-eq-div-mul, div-add-mod}
use Rattle.std.proofs.Math.Nat.{div-one, mod-lt, mod-one, add-mul, mul-lt-mul_of_pos_right}
use Rattle.std.proofs.lemmas.Bool.Decides.{Decides-int_eq}
use Rattle.std.proofs.lemmas.Int.{unsigned_abs-mul}
use Rattle.std.proofs.lemmas.Nat.{mul-lt, pow-add}
use Rattle.std.proofs.lemmas.Option.{same_Some}
use Rattle.std.specs.Int.Bits.{bit_xor}
use Rattle.std.specs.Prelude.{unsigned_abs}
use Rattle.jskw_value.specs.Fingerprint.{stirred, sign_fingerprint, parts_fingerprint, number_fingerprint}
use Rattle.jskw_value.specs.Number.{Num, exact, float, num_equal, written_integer, u64_of}
use Rattle.jskw_value.proofs.Numbers.{pos-ne-neg, product-above}
use Rattle.jskw_value.proofs.Powers.{ten_pow_low}

-- a product of two words has two words
pub wide_product : (x y : ℕ) → x < 2 ^ 64 → y < 2 ^ 64 → x * y < 2 ^ 128
wide_product x y h k = mul-lt x y (2 ^ 64) (2 ^ 64) h k

-- ---- by value

-- a common factor goes out of a quotient
mul-div-mul : (a l k : ℕ) → 0 < l → a * l / (k * l) ≡ a / k
mul-div-mul a l k h =
    ap (λ n. a * l / n) (mul_comm k l) ∙ sym (div-div-eq-div-mul (a * l) l k) ∙ ap (λ n. n / k) (mul-div_cancel a h)

-- the same quotient
same_whole : (a b k l : ℕ) → 0 < k → 0 < l → a * l ≡ b * k → a / k ≡ b / l
same_whole a b k l p q e = sym (mul-div-mul a l k q) ∙ ap₂ (λ x y. x / y) e (mul_comm k l) ∙ mul-div-mul b k l p

-- and so scaled alike
same_quotient : (a b m k l : ℕ) → 0 < k → 0 < l → a * l ≡ b * k → a * m / k ≡ b * m / l
same_quotient a b m k l p q e =
    same_whole (a * m) (b * m) k l p q (mul_right_comm a m l ∙ ap (λ x. x * m) e ∙ mul_right_comm b k m)

-- what is left behind the whole part is the same
same_rest : (a b k l : ℕ) → 0 < k → 0 < l → a * l ≡ b * k → a % k * l ≡ b % l * k
same_rest a b k l p q e =
    let left : k * (a / k) * l + a % k * l ≡ a * l =
    sym (add-mul (k * (a / k)) (a % k) l) ∙ ap (λ n. n * l) (div-add-mod a k) in
    let right : l * (b / l) * k + b % l * k ≡ b * k =
    sym (add-mul (l * (b / l)) (b % l) k) ∙ ap (λ n. n * k) (div-add-mod b l) in
    let written_integer : k * (a / k) * l ≡ l * (b / l) * k =
    mul_right_comm k (a / k) l ∙ ap₂ (λ m n. m * n) (mul_comm k l) (same_whole a b k l p q e)
    ∙ mul_right_comm l k (b / l) in
    omega (arith, e, left, right, written_integer)

-- the same sign
same_sign : (c d : ℤ) (k l : ℕ) → 0 < k → 0 < l → c *ℤ pos l ≡ d *ℤ pos k → sign_fingerprint c ≡ sign_fingerprint d
same_sign (pos a) (pos b) k l p q e = refl
same_sign (negsuc a) (negsuc b) k l p q e = refl
same_sign (pos a) (negsuc b) (suc k) l p q e = absurd (pos-ne-neg (a * l) (suc b * suc k) (product-above b k) e)
same_sign (negsuc a) (pos b) k (suc l) p q e = absurd (pos-ne-neg (b * k) (suc a * suc l) (product-above a l) (sym e))
same_sign (pos a) (negsuc b) zero l p q e = absurd (omega arith)
same_sign (negsuc a) (pos b) k zero p q e = absurd (omega arith)

-- equal parts of a sign, a whole part and what is left
same_parts : (s : ℕ) (a b k l : ℕ) → a * 10 ^ l ≡ b * 10 ^ k → parts_fingerprint s a k ≡ parts_fingerprint s b l
unfolding parts_fingerprint
same_parts s a b k l e = ap₂ (stirred s)
    (same_whole a b (10 ^ k) (10 ^ l) (ten_pow_low k) (ten_pow_low l) e)
    (same_quotient (a % 10 ^ k) (b % 10 ^ l) (10 ^ 18) (10 ^ k) (10 ^ l) (ten_pow_low k) (ten_pow_low l)
    (same_rest a b (10 ^ k) (10 ^ l) (ten_pow_low k) (ten_pow_low l) e))

-- equal numbers have one fingerprint
pub same_number : (seed : ℕ) (m n : Num) → num_equal m n ≡ true → number_fingerprint seed m ≡ number_fingerprint seed n
same_number seed (exact c k) (exact d l) h =
    ap (λ s. parts_fingerprint (bit_xor s seed) (unsigned_abs c) k)
    (same_sign c d (10 ^ k) (10 ^ l) (ten_pow_low k) (ten_pow_low l) e)
    ∙ same_parts (bit_xor (sign_fingerprint d) seed) (unsigned_abs c) (unsigned_abs d) k l
    (sym (unsigned_abs-mul c (pos (10 ^ l))) ∙ ap unsigned_abs e ∙ unsigned_abs-mul d (pos (10 ^ k)))
  where
    e : c *ℤ pos (10 ^ l) ≡ d *ℤ pos (10 ^ k)
    e = (Decides-int_eq (c *ℤ pos (10 ^ l)) (d *ℤ pos (10 ^ k))).0 h
same_number seed _ _ h = cc

-- ---- for the code

-- scaled up to eighteen digits
pub scaled_up : (n k : ℕ) → k ≤ 18 → n * 10 ^ (18 - k) ≡ n * 10 ^ 18 / 10 ^ k
scaled_up n k h =
    sym (ap (λ m. n * m / 10 ^ k) e ∙ ap (λ m. m / 10 ^ k) (sym (mul_assoc n (10 ^ (18 - k)) (10 ^ k)))
    ∙ mul-div_cancel (n * 10 ^ (18 - k)) (ten_pow_low k))
  where
    split : 18 ≡ (18 - k) + k
    split = omega (arith, h)

    e : 10 ^ 18 ≡ 10 ^ (18 - k) * 10 ^ k
    e = ap (λ m. 10 ^ m) split ∙ pow-add 10 (18 - k) k

-- less than one, in parts of 10^18
pub rest_fits : (n k : ℕ) → k ≤ 18 → n % 10 ^ k * 10 ^ (18 - k) < 2 ^ 64
rest_fits n k h =
    let below : n % 10 ^ k * 10 ^ (18 - k) < 10 ^ k * 10 ^ (18 - k) =
    mul-lt-mul_of_pos_right (mod-lt n (ten_pow_low k)) (ten_pow_low (18 - k)) in
    let exponent : k + (18 - k) ≡ 18 = omega (arith, h) in
    let all : 10 ^ k * 10 ^ (18 - k) ≡ 10 ^ 18 = sym (pow-add 10 k (18 - k)) ∙ ap (λ m. 10 ^ m) exponent in
    omega (arith, below, all)

-- of scale 0
pub whole_alone : (n k : ℕ) → k ≡ 0 → n ≡ n / 10 ^ k
whole_alone n k e = sym (ap (λ m. n / 10 ^ m) e ∙ div-one n)

-- with nothing behind the point
pub no_rest : (n k : ℕ) → k ≡ 0 → 0 ≡ n % 10 ^ k * 10 ^ 18 / 10 ^ k
no_rest n k e = sym (ap (λ m. n % 10 ^ m * 10 ^ 18 / 10 ^ m) e ∙ ap (λ m. m * 10 ^ 18 / 1) (mod-one n) ∙ refl)

-- of a whole number from 0 to 2^64 - 1
pub whole_fingerprint : (seed : ℕ) (m : Num) (n : ℕ) → option_and_then u64_of (written_integer m) ≡ Some n
    → number_fingerprint seed m ≡ stirred (bit_xor 6 seed) n 0
unfolding parts_fingerprint
whole_fingerprint seed (exact (pos c) zero) n e =
    ap₂ (stirred (bit_xor 6 seed)) (sym (whole_alone c 0 refl)) (sym (no_rest c 0 refl))
    ∙ ap (λ x. stirred (bit_xor 6 seed) x 0) (go (nat_lt c (2 ^ 64)) e)
  where
    go : (b : Bool) → (if b then Some c else None) ≡ Some n → c ≡ n
    go true e = same_Some c n e
    go false e = cc
whole_fingerprint seed (exact (negsuc c) zero) n e = cc
whole_fingerprint seed (exact c (suc k)) n e = cc
whole_fingerprint seed float n e = cc

pub ruleset parts = (scaled_up, rest_fits, whole_alone, no_rest, ten_pow_low)
