-- The bits that fingerprints set in a sketch.
use Rattle.std.proofs.Common.{◌≡◌, ℕ, ◌/◌, ◌^◌, ◌<◌, ◌==◌, max, List, length, get_or, set, true, false, bit_or, bit_xor}
use Rattle.std.proofs.Common.{sym, ap, ◌∙◌, inl, inr, ◌⊎◌, ◌≢◌, arith}
use Rattle.std.proofs.lemmas.Bool.{and_from, and_parts}
use Rattle.std.proofs.lemmas.Bool.Decides.{Decides-eqb, eqb_tells}
use Rattle.std.proofs.lemmas.List.{length-set, get_or-set_same, get_or-set_other}
use Rattle.std.proofs.lemmas.Nat.{or_comm}
use Rattle.std.proofs.lemmas.Nat.Bits.{bit_at_or, same_from_bits}
use Rattle.std.specs.Int.{bit_at}
use Rattle.std.specs.Int.Bits.{or_self}
use Rattle.jskw_value.specs.Sketch.{word_index, marks, is_set, is_marked}

-- of three bits
max_assoc : (x y z : ℕ) → max (max x y) z ≡ max x (max y z)
max_assoc x y z = omega arith

-- the order of two `|` is free
or_assoc : (a b c : ℕ) → bit_or (bit_or a b) c ≡ bit_or a (bit_or b c)
or_assoc a b c = same_from_bits (bit_or (bit_or a b) c) (bit_or a (bit_or b c)) (λ i.
    bit_at_or (bit_or a b) c i ∙ ap (λ x. max x (bit_at c i)) (bit_at_or a b i)
    ∙ max_assoc (bit_at a i) (bit_at b i) (bit_at c i)
    ∙ sym (bit_at_or a (bit_or b c) i ∙ ap (max (bit_at a i)) (bit_at_or b c i)))

-- what is set is set
or_twice : (w m : ℕ) → bit_or (bit_or w m) m ≡ bit_or w m
or_twice w m = or_assoc w m m ∙ ap (bit_or w) (or_self m)

-- and stays so
or_kept : (w m x : ℕ) → bit_or w m ≡ w → bit_or (bit_or w x) m ≡ bit_or w x
or_kept w m x e = or_assoc w x m ∙ ap (bit_or w) (or_comm x m) ∙ sym (or_assoc w m x) ∙ ap (λ y. bit_or y x) e

-- what was set just now is set
pub set_this : (ws : List ℕ) (p m i : ℕ) → i ≡ word_index p (length ws) → i < length ws
    → is_set (set ws i (bit_or (get_or ws i 0) m)) p m ≡ true
unfolding is_set
set_this ws p m i e h = ap (λ w. bit_or w m == w) word ∙ (Decides-eqb _ _).1 (or_twice (get_or ws i 0) m)
  where
    new : List ℕ
    new = set ws i (bit_or (get_or ws i 0) m)

    word : get_or new (word_index p (length new)) 0 ≡ bit_or (get_or ws i 0) m
    word = ap (λ n. get_or new (word_index p n) 0) (length-set ws i (bit_or (get_or ws i 0) m))
        ∙ ap (λ k. get_or new k 0) (sym e) ∙ get_or-set_same ws i (bit_or (get_or ws i 0) m) 0 h

-- what was set before is too
pub set_other : (ws : List ℕ) (i m p q : ℕ) → i < length ws → is_set ws p q ≡ true
    → is_set (set ws i (bit_or (get_or ws i 0) m)) p q ≡ true
unfolding is_set
set_other ws i m p q h k =
    ap (λ n. bit_or (get_or new (word_index p n) 0) q == get_or new (word_index p n) 0)
    (length-set ws i (bit_or (get_or ws i 0) m))
    ∙ go (eqb_tells (word_index p (length ws)) i)
  where
    new : List ℕ
    new = set ws i (bit_or (get_or ws i 0) m)

    at : ℕ
    at = word_index p (length ws)

    go : (((at == i) ≡ true) × (at ≡ i)) ⊎ (((at == i) ≡ false) × (at ≢ i))
        → (bit_or (get_or new at 0) q == get_or new at 0) ≡ true
    go (inl t) = ap (λ j. bit_or (get_or new j 0) q == get_or new j 0) t.1
        ∙ ap (λ w. bit_or w q == w) (get_or-set_same ws i (bit_or (get_or ws i 0) m) 0 h)
        ∙ (Decides-eqb _ _).1 (or_kept (get_or ws i 0) q m
        ((Decides-eqb _ _).0 (ap (λ j. bit_or (get_or ws j 0) q == get_or ws j 0) (sym t.1) ∙ k)))
    go (inr t) = ap (λ w. bit_or w q == w) (get_or-set_other ws i at (bit_or (get_or ws i 0) m) 0 t.1) ∙ k

-- a fingerprint is marked once its three words are set
pub marked_all : (ws xs ys : List ℕ) (p : ℕ) → is_set ws (p / 2 ^ 32) (marks p) ≡ true → is_set xs p (marks p) ≡ true
    → is_set ys (bit_xor p (p / 2 ^ 32)) (marks p) ≡ true
    → ((q r : ℕ) → is_set ws q r ≡ true → is_set xs q r ≡ true)
    → ((q r : ℕ) → is_set xs q r ≡ true → is_set ys q r ≡ true)
    → is_marked ys p ≡ true
unfolding is_marked
marked_all ws xs ys p a b c f g = and_from _ _ (and_from _ _ (g _ _ (f _ _ a)) (g _ _ b)) c

-- what is set stays set, and so what is marked stays marked
pub marked_kept : (ws xs : List ℕ) → ((q r : ℕ) → is_set ws q r ≡ true → is_set xs q r ≡ true)
    → (p : ℕ) → is_marked ws p ≡ true → is_marked xs p ≡ true
unfolding is_marked
marked_kept ws xs f p h =
    and_from _ _
    (and_from _ _ (f _ _ (and_parts _ _ (and_parts _ _ h).0).0) (f _ _ (and_parts _ _ (and_parts _ _ h).0).1))
    (f _ _ (and_parts _ _ h).1)
