-- Texts that are written part by part.
use Rattle.std.specs.Prelude.{◌≡◌, ℕ, List, [], ◌∷◌, ◌++◌}
use Rattle.jskw_report.specs.Fail.{Failure}

-- the text has one part for each error, in order
abbrev pub HasEach : (Failure → List ℕ → Type 0) → List Failure → List ℕ → Type 0
HasEach Is [] text = text ≡ []
HasEach Is (f ∷ fs) text =
    (first : List ℕ) × (rest : List ℕ) × (text ≡ first ++ rest) × Is f first × HasEach Is fs rest
