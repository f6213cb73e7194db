-- Lists by index.
use Rattle.std.proofs.Common.{◌≡◌, ℕ, ◌+◌, ◌<◌, List, ◌∷◌, length, get_or, drop, Bool, true, refl, sym, ap, ◌∙◌}
use Rattle.std.proofs.lemmas.List.{at_drop_more}
use Rattle.std.proofs.lemmas.List.Recursion.{and_at}
use Rattle.std.specs.List.{list_all}

-- a function of what is left of a list, one index on
pub at_index : {A B : Type 0} (f : List A → B) (xs : List A) (i : ℕ) (x : A) → i < length xs → x ≡ get_or xs i x
    → f (drop i xs) ≡ f (x ∷ drop (i + 1) xs)
at_index f xs i x h e = at_drop_more f xs i x h ∙ ap (λ y. f (y ∷ drop (i + 1) xs)) (sym e)

-- the test holds at an index where it holds of all
pub all_at : {A : Type 0} (p : A → Bool) (xs : List A) (i : ℕ) (x : A) → list_all p xs ≡ true → i < length xs
    → x ≡ get_or xs i x → p x ≡ true
all_at p xs i x k h e = ap p e ∙ and_at (list_all p) p refl (λ y ys. refl) xs i x h k
