-- Items that rise differ, one item on.
use Rattle.std.proofs.Common.{◌≡◌, ℕ, ◌+◌, ◌<◌, ◌≤◌, List, length, get_or, true, false, Some, slice_get, refl, sym}
use Rattle.std.proofs.Common.{subst, ◌∙◌, ◌⊎◌, inl, inr, arith}
use Rattle.std.proofs.lemmas.Bool.{ne_eqb}
use Rattle.std.proofs.lemmas.Option.{slice_get_read, slice_get_within}
use Rattle.jskw_value.specs.Equality.{equal, unique}
use Rattle.jskw_value.specs.Tree.{Tree, number}
use Rattle.jskw_value.specs.Unique.{AreRising, natural_of}
use Rattle.jskw_value.proofs.BlockSearch.{below, one_tree}
use Rattle.jskw_value.proofs.Numbers.{equal_words}
use Rattle.jskw_value.proofs.UniqueItems.{unique_means}

-- two integers of which one is less differ
apart : (t u : Tree) (a b : ℕ) → natural_of t ≡ Some a → natural_of u ≡ Some b → a < b → equal t u ≡ false
apart (number m) (number n) a b e f l = sym (equal_words m n a b e f) ∙ ne_eqb a b (λ s. omega (arith, s, l))
apart (number m) _ a b e f l = absurd (cc)
apart _ u a b e f l = absurd (cc)

pub rising_start : (ts : List Tree) → AreRising 0 0 ts
rising_start ts = record {
  below = λ i t l e. absurd (omega (arith, l));
  differ = λ i j t u l m e f. absurd (omega (arith, m));
}

pub rising_step : (ts : List Tree) (n least a : ℕ) (x : Tree) → n < length ts → x ≡ get_or ts n x
    → natural_of x ≡ Some a → least ≤ a → AreRising n least ts → AreRising (n + 1) (a + 1) ts
rising_step ts n least a x h e w k rising = record {
  below = λ i t l f. lower i t f (below i n l);
  differ = λ i j t u l m f g. differ i j t u l f g (below j n m);
}
  where
    at : slice_get ts n ≡ Some x
    at = slice_get_read ts (length ts) n x refl h e

    lower : (i : ℕ) (t : Tree) → slice_get ts i ≡ Some t → (i ≡ n) ⊎ (i < n)
        → (b : ℕ) × (natural_of t ≡ Some b) × (b < a + 1)
    lower i t f (inl q) = (a, subst (λ z. natural_of z ≡ Some a) (one_tree ts n i x t at q f) w, omega arith)
    lower i t f (inr q) = let r = rising.below i t q f in (r.0, r.1, omega (arith, r.2, k))

    differ : (i j : ℕ) (t u : Tree) → i < j → slice_get ts i ≡ Some t → slice_get ts j ≡ Some u → (j ≡ n) ⊎ (j < n)
        → equal t u ≡ false
    differ i j t u l f g (inl q) =
        let r = rising.below i t (subst (λ z. i < z) q l) f in
        subst (λ z. equal t z ≡ false) (one_tree ts n j x u at q g) (apart t x r.0 a r.1 w (omega (arith, r.2, k)))
    differ i j t u l f g (inr q) = rising.differ i j t u l q f g

pub rising_end : (ts : List Tree) (n least : ℕ) → length ts ≤ n → AreRising n least ts → unique ts ≡ true
rising_end ts n least h rising =
    (unique_means ts).1 (λ i j t u l e f. rising.differ i j t u l (omega (arith, h, slice_get_within ts j u f)) e f)

pub ruleset rising = (rising_start, rising_step, rising_end)
