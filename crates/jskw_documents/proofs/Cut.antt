-- The first errors, and whether there are more.
use Rattle.std.proofs.Common.{◌≡◌, ◌<◌, ◌≤◌, ◌&&◌, ◌+◌, ℕ, zero, suc, List, [], ◌∷◌, Bool, true, false, refl, sym}
use Rattle.std.proofs.Common.{ap, ◌∙◌, arith, if◌then◌else◌, length, min, take}
use Rattle.std.specs.Prelude.{nat_lt}
use Rattle.std.proofs.lemmas.Bool.{lt-ltb, ne_eqb}
use Rattle.std.proofs.lemmas.Bool.Decides.{nat_tests}
use Rattle.std.proofs.lemmas.List.{length-take, take_all}
use Rattle.jskw_report.specs.Fail.{Failure}
use Rattle.jskw_documents.specs.Reports.{first_of, is_cut}

first_some : (n : ℕ) (fs : List Failure) → 0 < n → first_of n fs ≡ take n fs
first_some n fs some = ap (λ b. if b then fs else take n fs) (ne_eqb n 0 (omega arith))

take_fewer : (n : ℕ) (fs : List Failure) → take n (take (suc n) fs) ≡ take n fs
take_fewer zero fs = refl
take_fewer (suc n) [] = refl
take_fewer (suc n) (f ∷ fs) = ap (λ gs. f ∷ gs) (take_fewer n fs)

no_more : (n : ℕ) (fs gs : List Failure) → gs ≡ first_of (n + 1) fs → length gs ≤ n → length fs ≤ n
no_more n fs gs is few =
    let count : length gs ≡ min (n + 1) (length fs) =
    ap (λ z. length z) (is ∙ first_some (n + 1) fs (omega arith)) ∙ length-take (n + 1) fs in
    omega arith

-- one error more than are shown was asked for, and there is none
pub uncut_first : (n : ℕ) (fs gs : List Failure) → 0 < n → gs ≡ first_of (n + 1) fs → length gs ≤ n
    → gs ≡ first_of n fs
uncut_first n fs gs some is few =
    let all : length fs ≤ n = no_more n fs gs is few in
    is ∙ first_some (n + 1) fs (omega arith) ∙ take_all (n + 1) fs (omega arith)
    ∙ sym (first_some n fs some ∙ take_all n fs all)

never : (b c : Bool) → false ≡ (b && c && false)
never true true = refl
never true false = refl
never false c = refl

pub uncut : (n : ℕ) (fs gs : List Failure) → gs ≡ first_of (n + 1) fs → length gs ≤ n → false ≡ is_cut n fs
uncut n fs gs is few =
    let all : length fs ≤ n = no_more n fs gs is few in
    let more : nat_lt n (length fs) ≡ false = grind (arith, nat_tests) in
    never (nat_lt 0 n) (nat_lt n 18446744073709551615)
    ∙ ap (λ b. nat_lt 0 n && nat_lt n 18446744073709551615 && b) (sym more)

-- there is one
pub cut_first : (n : ℕ) (fs gs : List Failure) → 0 < n → gs ≡ first_of (n + 1) fs → take n gs ≡ first_of n fs
cut_first n fs gs some is =
    let next : suc n ≡ n + 1 = omega arith in
    ap (take n) (is ∙ first_some (n + 1) fs (omega arith) ∙ ap (λ m. take m fs) (sym next)) ∙ take_fewer n fs
    ∙ sym (first_some n fs some)

pub cut : (n : ℕ) (fs gs : List Failure) → 0 < n → n < 18446744073709551615 → gs ≡ first_of (n + 1) fs
    → n < length gs → true ≡ is_cut n fs
cut n fs gs some below is many =
    let count : length gs ≡ min (n + 1) (length fs) =
    ap (λ z. length z) (is ∙ first_some (n + 1) fs (omega arith)) ∙ length-take (n + 1) fs in
    let more : n < length fs = omega arith in
    sym (ap (λ b. b && nat_lt n 18446744073709551615 && nat_lt n (length fs)) (lt-ltb 0 n some)
    ∙ ap (λ b. b && nat_lt n (length fs)) (lt-ltb n 18446744073709551615 below) ∙ lt-ltb n (length fs) more)
