-- Texts that are written part by part.
use Rattle.std.proofs.Common.{◌≡◌, ℕ, ◌+◌, ◌<◌, ◌≤◌, List, [], ◌++◌, refl, sym, subst, drop, get_or, length}
use Rattle.std.proofs.Common.{map, Result, Ok, Err, OnOk}
use Rattle.std.proofs.lemmas.List.{append-nil, append_assoc, drop_all}
use Rattle.jskw_report.specs.Fail.{Failure}
use Rattle.jskw_report.proofs.GatheredNodes.{drop_here}
use Rattle.jskw_service.specs.Parts.{HasEach}

-- of a list of errors: what is written, with what is left to write from an index on
abbrev pub IsWritten : {X : Type 0} → (Failure → List ℕ → Type 0) → (X → Failure) → List X → ℕ → List ℕ → Type 0
IsWritten Is failure errors i text =
    (rest : List ℕ) → HasEach Is (map failure (drop i errors)) rest → HasEach Is (map failure errors) (text ++ rest)

-- the next error, which adds its part to the text
pub next_written : {X : Type 0} (Is : Failure → List ℕ → Type 0) (failure : X → Failure) (errors : List X) (i : ℕ)
    (e : X) (old new : List ℕ) → i < length errors → e ≡ get_or errors i e → IsWritten Is failure errors i old
    → (part : List ℕ) × Is (failure e) part × (new ≡ old ++ part) → IsWritten Is failure errors (i + 1) new
next_written Is failure errors i e old new within is so_far grown rest parts =
    let part = grown.0 in
    let joined : old ++ (part ++ rest) ≡ new ++ rest = rw grown.2 (simp append_assoc) in
    let here : HasEach Is (map failure (drop i errors)) (part ++ rest) =
    subst (λ es. HasEach Is (map failure es) (part ++ rest)) (sym (drop_here errors i e within is))
    (part, rest, refl, grown.1, parts) in
    subst (HasEach Is (map failure errors)) joined (so_far (part ++ rest) here)

-- where no error is left, all parts are written
pub all_written : {X : Type 0} (Is : Failure → List ℕ → Type 0) (failure : X → Failure) (errors : List X) (i : ℕ)
    (text : List ℕ) → length errors ≤ i → IsWritten Is failure errors i text → HasEach Is (map failure errors) text
all_written Is failure errors i text past so_far =
    subst (HasEach Is (map failure errors)) (append-nil text)
    (so_far [] (subst (λ es. HasEach Is (map failure es) []) (sym (drop_all i errors past)) refl))

-- a text of three parts, written one by one
pub three_parts : {E : Type 0} (r : Result Unit E) (old a b new u v w text : List ℕ)
    → a ≡ old ++ u → b ≡ a ++ v → OnOk r (new ≡ b ++ w) → text ≡ u ++ (v ++ w) → OnOk r (new ≡ old ++ text)
three_parts (Ok y) old a b new u v w text first second last whole =
    rw (last, second, first, whole) (simp append_assoc)
three_parts (Err e) old a b new u v w text first second last whole = tt

-- a text of four parts, written one by one
pub four_parts : {E : Type 0} (r : Result Unit E) (old a b c new u v w x text : List ℕ)
    → a ≡ old ++ u → b ≡ a ++ v → c ≡ b ++ w → OnOk r (new ≡ c ++ x) → text ≡ u ++ (v ++ (w ++ x))
    → OnOk r (new ≡ old ++ text)
four_parts (Ok y) old a b c new u v w x text first second third last whole =
    rw (last, third, second, first, whole) (simp append_assoc)
four_parts (Err e) old a b c new u v w x text first second third last whole = tt
