-- The unit of an assertion's errors.
use Rattle.std.proofs.Common.{◌≡◌, ℕ, ◌==◌, ◌≤◌, List, [], ◌∷◌, ◌++◌, length, drop, map, true, false, refl, sym, ap}
use Rattle.std.proofs.Common.{◌∙◌, append-nil, arith}
use Rattle.std.proofs.lemmas.Bool.{eqb-true, true≢false}
use Rattle.std.proofs.lemmas.List.{at_drop_all}
use Rattle.jskw_report.specs.Evaluation.{valid_unit, invalid_unit, of_errors}
use Rattle.jskw_report.specs.Fail.{Failure}
use Rattle.jskw_report.specs.Kind.{keyword_of}

-- the keywords that failed
abbrev pub keywords : List Failure → List (List ℕ)
keywords fs = map (λ f. keyword_of f.kind) fs

pub no_errors : {E : Type 0} (f : E → Failure) (es : List E) → (length es == 0) ≡ true
    → valid_unit ≡ of_errors (map f es)
unfolding of_errors
no_errors f [] h = refl
no_errors f (e ∷ es) h = absurd (omega (arith, eqb-true (length (e ∷ es)) 0 h))

-- the keywords of all were collected
pub some_errors : {E : Type 0} (f : E → Failure) (es : List E) (n : ℕ) (ks : List (List ℕ)) → (length es == 0) ≡ false
    → length es ≤ n → ks ++ keywords (map f (drop n es)) ≡ keywords (map f es) → invalid_unit ks ≡ of_errors (map f es)
unfolding of_errors
some_errors f [] n ks h l e = absurd (true≢false h)
some_errors f (x ∷ es) n ks h l e =
    let all : ks ≡ keywords (map f (x ∷ es)) =
    sym (append-nil ks) ∙ ap (λ rest. ks ++ rest) (sym (at_drop_all (λ xs. keywords (map f xs)) (x ∷ es) n l))
    ∙ e in
    ap invalid_unit all
