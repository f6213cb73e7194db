-- Heads of texts, as the code puts them together.
use Rattle.std.proofs.Common.{◌≡◌, ℕ, ◌-◌, ◌<◌, ◌≤◌, List, [], ◌∷◌, length, get_or, drop, take, refl, ap, ap₂, arith}
use Rattle.std.proofs.lemmas.List.{take_all}
use Rattle.std.specs.Int.{w64, from_le_bytes}
use Rattle.jskw_value.specs.PropertyName.{head_of, padded}

-- so few bytes with zeros behind them, one by one
pub few_padded : (s : List ℕ) → length s < 8
    → (get_or s 0 0 ∷ get_or s 1 0 ∷ get_or s 2 0 ∷ get_or s 3 0 ∷ get_or s 4 0 ∷ get_or s 5 0 ∷ get_or s 6 0 ∷ 0 ∷ [])
    ≡ padded s
few_padded [] l = refl
few_padded (a ∷ []) l = refl
few_padded (a ∷ b ∷ []) l = refl
few_padded (a ∷ b ∷ c ∷ []) l = refl
few_padded (a ∷ b ∷ c ∷ d ∷ []) l = refl
few_padded (a ∷ b ∷ c ∷ d ∷ e ∷ []) l = refl
few_padded (a ∷ b ∷ c ∷ d ∷ e ∷ f ∷ []) l = refl
few_padded (a ∷ b ∷ c ∷ d ∷ e ∷ f ∷ g ∷ []) l = refl
few_padded (a ∷ b ∷ c ∷ d ∷ e ∷ f ∷ g ∷ h ∷ s) l = absurd (omega (arith, l))

-- less than eight bytes are their own front and their own end
pub head_of_few : (s : List ℕ) → length s < 8
    → head_of s
    ≡ record { length = length s; first = from_le_bytes w64 (padded s); last = from_le_bytes w64 (padded s) }
unfolding head_of
head_of_few s l =
    ap₂ (λ a b. record { length = length s; first = from_le_bytes w64 (padded a); last = from_le_bytes w64 (padded b) })
    (take_all 8 s (omega (arith, l))) (ap (λ i. drop i s) none)
  where
    none : length s - 8 ≡ 0
    none = omega (arith, l)

pub head_of_many : (s : List ℕ) → 8 ≤ length s
    → head_of s ≡ record {
      length =
          length s;
      first =
          from_le_bytes w64 (padded (take 8 s));
      last = from_le_bytes w64 (padded (drop (length s - 8) s));
    }
unfolding head_of
head_of_many s l = refl
