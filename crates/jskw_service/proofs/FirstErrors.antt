-- Errors up to a limit.
use Rattle.std.proofs.Common.{◌≡◌, ℕ, zero, suc, Bool, true, false, true≢false, eqb, if◌then◌else◌, List, [], ◌∷◌, refl}
use Rattle.std.proofs.Common.{take}
use Rattle.jskw_report.specs.Fail.{Failure, is_empty}
use Rattle.jskw_service.specs.FirstErrors.{first_of}

empty_if : (b : Bool) (n : ℕ) (fs : List Failure) → eqb n 0 ≡ b
    → is_empty (if b then fs else take n fs) ≡ is_empty fs
empty_if true n fs e = refl
empty_if false zero fs e = absurd (true≢false e)
empty_if false (suc n) [] e = refl
empty_if false (suc n) (f ∷ fs) e = refl

-- the first errors are none only where there is none
pub first_empty : (n : ℕ) (fs : List Failure) → is_empty (first_of n fs) ≡ is_empty fs
first_empty n fs = empty_if (eqb n 0) n fs refl
