-- Texts of k to 2 k bytes are their first and their last k bytes.
use Rattle.std.proofs.Common.{◌≡◌, ℕ, ◌-◌, ◌+◌, ◌≤◌, ◌==◌, List, ◌++◌, length, take, drop, true, sym, ap, ap₂, ◌∙◌}
use Rattle.std.proofs.Common.{arith}
use Rattle.std.proofs.lemmas.Bool.Decides.{Decides-eqb, same_from_decides}
use Rattle.std.proofs.lemmas.List.{take-append-drop, take_rest, drop-drop}
use Rattle.std.proofs.lemmas.Slice.Eq.{bytes_eq-Decides}
use Rattle.std.specs.Int.{Width, from_le_bytes, to_le_bytes}
use Rattle.std.specs.Str.{bytes_eq}

-- what is behind the first k bytes of n stands among the last k
behind : (k : ℕ) (a : List ℕ) (n : ℕ) → k ≤ n → n ≤ k + k → drop k a ≡ drop (k + k - n) (drop (n - k) a)
behind k a n l h =
    let place : k ≡ n - k + (k + k - n) = omega (arith, l, h) in
    ap (λ i. drop i a) place ∙ sym (drop-drop (k + k - n) (n - k) a)

-- the bytes from n - k on, as the code takes them
abbrev last : ℕ → ℕ → List ℕ → List ℕ
last k n s = take (length s - (n - k)) (drop (n - k) s)

all_last : (k n : ℕ) (s : List ℕ) → drop (n - k) s ≡ last k n s
all_last k n s = sym (take_rest s (n - k))

same_ends : (k : ℕ) (a b : List ℕ) (n : ℕ) → k ≤ n → n ≤ k + k → take k a ≡ take k b → last k n a ≡ last k n b → a ≡ b
same_ends k a b n l h first e =
    let ends = all_last k n a ∙ e ∙ sym (all_last k n b) in
    let rest = behind k a n l h ∙ ap (drop (k + k - n)) ends ∙ sym (behind k b n l h) in
    sym (take-append-drop k a) ∙ ap₂ (λ x y. x ++ y) first rest ∙ take-append-drop k b

pub equal_ends : (k : ℕ) (a b : List ℕ) (n : ℕ) → k ≤ n → n ≤ k + k → take k a ≡ take k b → last k n a ≡ last k n b
    → bytes_eq a b ≡ true
equal_ends k a b n l h first e = (bytes_eq-Decides a b).1 (same_ends k a b n l h first e)

-- where the first k bytes are the same, the last k tell, as the numbers p and q
pub last_tell : (w : Width) (k : ℕ) (a b : List ℕ) (n p q : ℕ) → k ≤ n → n ≤ k + k → take k a ≡ take k b
    → p ≡ from_le_bytes w (last k n a)
    → to_le_bytes w p ≡ last k n a
    → q ≡ from_le_bytes w (last k n b) → to_le_bytes w q ≡ last k n b → (p == q) ≡ bytes_eq a b
last_tell w k a b n p q l h first p_is p_of q_is q_of = same_from_decides (p == q) (bytes_eq a b) (
  λ e. same_ends k a b n l h first (sym p_of ∙ ap (to_le_bytes w) ((Decides-eqb p q).0 e) ∙ q_of),
  λ e. (Decides-eqb p q).1 (p_is ∙ ap (λ s. from_le_bytes w (last k n s)) e ∙ sym q_is),
) (bytes_eq-Decides a b)
