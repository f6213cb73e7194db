-- Numbers over powers of ten: equality by value is an equivalence, and a number written alike is equal.
use Rattle.std.specs.Prelude.{◌≡◌, ℕ, zero, suc, pred, ◌*◌, ◌^◌, ◌<◌, ◌==◌, ℤ, pos, negsuc, ◌*ℤ◌, neg_ℤ, nat_abs}
use Rattle.std.specs.Prelude.{nat_lt, Bool, true, false, Some, None, option_and_then, if◌then◌else◌, ◌≢◌}
use Rattle.std.specs.Ordering.{int_eq}
use Rattle.std.proofs.Common.{refl, sym, ◌∙◌, ap, ap₂, arith}
use Rattle.std.proofs.lemmas.Bool.{and_from, and_parts}
use Rattle.std.proofs.lemmas.Bool.Decides.{Decides-eqb, Decides-int_eq, Decides-like, same_from_decides}
use Rattle.std.proofs.lemmas.Cmp.{int_eq_equiv}
use Rattle.std.proofs.lemmas.Option.{same_Some}
use Rattle.std.proofs.Math.Nat.{mul_right_comm, zero-mul, eq_of_mul-eq-mul_right}
use Rattle.std.proofs.Math.IntN.{neg_ℤ-neg_ℤ, pos-ne-negsuc}
use Rattle.jskw_value.specs.Number.{Num, exact, float, is_exact, num_equal, num_same, u64_of, written_integer}
use Rattle.jskw_value.proofs.Powers.{ten_pow_low}

-- ---- scaling

-- a product with a negative factor
neg-times : (y l : ℕ) → neg_ℤ (pos y) *ℤ pos l ≡ neg_ℤ (pos (y * l))
neg-times zero l = ap pos (zero-mul l) ∙ ap (λ n. neg_ℤ (pos n)) (sym (zero-mul l))
neg-times (suc y) l = refl

-- factors on the right change places
times_right_comm : (c : ℤ) (m l : ℕ) → c *ℤ pos m *ℤ pos l ≡ c *ℤ pos l *ℤ pos m
times_right_comm (pos c) m l = ap pos (mul_right_comm c m l)
times_right_comm (negsuc c) m l =
    neg-times (suc c * m) l ∙ ap (λ n. neg_ℤ (pos n)) (mul_right_comm (suc c) m l) ∙ sym (neg-times (suc c * l) m)

-- equal non-negative integers have equal numbers
pos-injective : (m n : ℕ) → pos m ≡ pos n → m ≡ n
pos-injective m n e = ap nat_abs e

-- so have equal negations
neg-injective : (m n : ℕ) → neg_ℤ (pos m) ≡ neg_ℤ (pos n) → m ≡ n
neg-injective m n e = pos-injective m n (sym (neg_ℤ-neg_ℤ (pos m)) ∙ ap neg_ℤ e ∙ neg_ℤ-neg_ℤ (pos n))

-- a common factor above zero goes away
mul_cancel : (a b n : ℕ) → a * suc n ≡ b * suc n → a ≡ b
mul_cancel a b n e = eq_of_mul-eq-mul_right (suc n) (omega arith) a b e

-- no non-negative integer is negative
pub pos-ne-neg : (m n : ℕ) → 0 < n → pos m ≢ neg_ℤ (pos n)
pos-ne-neg m (suc n) h = pos-ne-negsuc m n
pos-ne-neg m zero h = absurd (omega arith)

-- a product of two numbers above zero is above zero
pub product-above : (a n : ℕ) → 0 < suc a * suc n
product-above a n = omega arith

-- a common factor above zero goes away among integers
times_cancel : (a b : ℤ) (n : ℕ) → a *ℤ pos (suc n) ≡ b *ℤ pos (suc n) → a ≡ b
times_cancel (pos a) (pos b) n e = ap pos (mul_cancel a b n (pos-injective _ _ e))
times_cancel (pos a) (negsuc b) n e = absurd (pos-ne-neg (a * suc n) (suc b * suc n) (product-above b n) e)
times_cancel (negsuc a) (pos b) n e = absurd (pos-ne-neg (b * suc n) (suc a * suc n) (product-above a n) (sym e))
times_cancel (negsuc a) (negsuc b) n e = ap (λ m. negsuc (pred m)) (mul_cancel (suc a) (suc b) n (neg-injective _ _ e))

-- a common factor above zero keeps the answer of `==`
scaled_above : (a b : ℤ) (n : ℕ) → 0 < n → int_eq (a *ℤ pos n) (b *ℤ pos n) ≡ int_eq a b
scaled_above a b zero h = absurd (omega arith)
scaled_above a b (suc n) h = same_from_decides _ _ (Decides-int_eq (a *ℤ pos (suc n)) (b *ℤ pos (suc n)))
    (Decides-like _ (ap (λ z. z *ℤ pos (suc n))) (times_cancel a b n) (Decides-int_eq a b))

-- a common power of ten keeps the answer of `==`
scaled : (a b : ℤ) (k : ℕ) → int_eq (a *ℤ pos (10 ^ k)) (b *ℤ pos (10 ^ k)) ≡ int_eq a b
scaled a b k = scaled_above a b (10 ^ k) (ten_pow_low k)

-- of one scale, the coefficients decide
pub same_scale : (c d : ℤ) (k l : ℕ) → k ≡ l → int_eq c d ≡ int_eq (c *ℤ pos (10 ^ l)) (d *ℤ pos (10 ^ k))
same_scale c d k l e =
    sym (scaled c d k) ∙ ap (λ j. int_eq (c *ℤ pos (10 ^ j)) (d *ℤ pos (10 ^ k))) e

-- ---- by value

-- where c L = d K and d M = e L, also c M = e K
cross : (c d e : ℤ) (k l m : ℕ) → c *ℤ pos (10 ^ l) ≡ d *ℤ pos (10 ^ k)
    → int_eq (d *ℤ pos (10 ^ m)) (e *ℤ pos (10 ^ l)) ≡ true → int_eq (c *ℤ pos (10 ^ m)) (e *ℤ pos (10 ^ k)) ≡ true
cross c d e k l m h i = sym (scaled (c *ℤ pos (10 ^ m)) (e *ℤ pos (10 ^ k)) l)
    ∙ ap (λ z. int_eq z (e *ℤ pos (10 ^ k) *ℤ pos (10 ^ l)))
    (times_right_comm c (10 ^ m) (10 ^ l) ∙ ap (λ z. z *ℤ pos (10 ^ m)) h ∙ times_right_comm d (10 ^ k) (10 ^ m))
    ∙ ap (λ z. int_eq (d *ℤ pos (10 ^ m) *ℤ pos (10 ^ k)) z) (times_right_comm e (10 ^ k) (10 ^ l))
    ∙ scaled (d *ℤ pos (10 ^ m)) (e *ℤ pos (10 ^ l)) k ∙ i

-- a decimal equals itself
pub num_equal_refl : (n : Num) → is_exact n ≡ true → num_equal n n ≡ true
num_equal_refl (exact c k) h = int_eq_equiv.refl (c *ℤ pos (10 ^ k))
num_equal_refl float h = h

-- equality of numbers, the other way round
pub num_equal_symm : (m n : Num) → num_equal m n ≡ true → num_equal n m ≡ true
num_equal_symm (exact c k) (exact d l) h = int_eq_equiv.symm (d *ℤ pos (10 ^ k)) (c *ℤ pos (10 ^ l)) ∙ h
num_equal_symm _ _ h = cc

-- through a number between the two
pub num_equal_trans : (m n o : Num) → num_equal m n ≡ true → num_equal n o ≡ true → num_equal m o ≡ true
num_equal_trans (exact c k) (exact d l) (exact e i) h j =
    cross c d e k l i ((Decides-int_eq (c *ℤ pos (10 ^ l)) (d *ℤ pos (10 ^ k))).0 h) j
num_equal_trans _ _ _ h j = cc

-- ---- as written

-- numbers written alike are one
pub num_same_is : (m n : Num) → num_same m n ≡ true → m ≡ n
num_same_is (exact c k) (exact d l) h =
    ap₂ exact ((Decides-int_eq c d).0 (and_parts _ _ h).0) ((Decides-eqb k l).0 (and_parts _ _ h).1)
num_same_is float float h = refl
num_same_is _ _ h = cc

-- a number is written like itself
pub num_same_refl : (n : Num) → num_same n n ≡ true
num_same_refl (exact c k) = and_from _ _ (int_eq_equiv.refl c) ((Decides-eqb k k).1 refl)
num_same_refl float = refl

-- ---- as words

-- a number that is written as a word is that word
word_is : (m : Num) (a : ℕ) → option_and_then u64_of (written_integer m) ≡ Some a → m ≡ exact (pos a) zero
word_is (exact (pos c) zero) a e = go (nat_lt c (2 ^ 64)) e
  where
    go : (b : Bool) → (if b then Some c else None) ≡ Some a → exact (pos c) zero ≡ exact (pos a) zero
    go true e = ap (λ x. exact (pos x) zero) (same_Some c a e)
    go false e = cc
word_is (exact (negsuc c) zero) a e = cc
word_is (exact c (suc k)) a e = cc
word_is float a e = cc

-- numbers that are written as words are equal exactly where the words are
pub equal_words : (m n : Num) (a b : ℕ) → option_and_then u64_of (written_integer m) ≡ Some a
    → option_and_then u64_of (written_integer n) ≡ Some b → (a == b) ≡ num_equal m n
equal_words m n a b h k =
    let words : int_eq (pos a) (pos b) ≡ (a == b) = same_from_decides _ _ (Decides-int_eq (pos a) (pos b))
    (Decides-like _ (ap pos) (pos-injective a b) (Decides-eqb a b)) in
    sym (ap₂ num_equal (word_is m a h) (word_is n b k) ∙ scaled (pos a) (pos b) 0 ∙ words)
