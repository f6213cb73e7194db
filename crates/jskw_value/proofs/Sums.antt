-- Sums over entries with distinct names: those of two lists are one where each of the one is among the other, and each
-- name of the other is one of the one's.
use Rattle.std.proofs.Common.{◌≡◌, ℕ, ◌+◌, ◌≤◌, List, [], ◌∷◌, Bool, true, false, cond, Option, Some, None, option_map}
use Rattle.std.proofs.Common.{unwrap_or, is_some, refl, sym, ap, ◌∙◌, arith}
use Rattle.std.proofs.lemmas.Bool.{and_parts, both_ways, false_from_ne_true}
use Rattle.std.proofs.lemmas.Cmp.{nat_list_eq_equiv}
use Rattle.std.proofs.lemmas.List.Sums.{sum_by-cons}
use Rattle.std.proofs.lemmas.Map.Entries.{sum_by-remove_entry}
use Rattle.std.proofs.lemmas.Map.Keys.{IsDistinct-head, IsDistinct-tail}
use Rattle.std.proofs.lemmas.Map.Made.{is_some-lookup}
use Rattle.std.proofs.lemmas.Slice.Eq.{bytes_eq-Decides}
use Rattle.std.specs.List.{list_all, sum_by, IsDistinct, AllByRecursion}
use Rattle.std.specs.Map.{keys_of, values_of, lookup, remove_entry}
use Rattle.std.specs.Set.{is_member}
use Rattle.std.specs.Str.{bytes_eq}
use Rattle.jskw_value.specs.Equality.{AreAmong}
use Rattle.jskw_value.proofs.Equal.{all_among}

abbrev pub Entries : Type 0
Entries = List (List ℕ × ℕ)

abbrev pub total : Entries → ℕ
total es = sum_by (λ x. x) (values_of es)

-- another name is found as before
other_name : (k q : List ℕ) (es : Entries) → bytes_eq k q ≡ false
    → lookup (bytes_eq q) (remove_entry (bytes_eq k) es) ≡ lookup (bytes_eq q) es
other_name k q [] h = refl
other_name k q (e ∷ es) h = go (bytes_eq k e.0) refl (other_name k q es h)
  where
    go : (b : Bool) → bytes_eq k e.0 ≡ b → lookup (bytes_eq q) (remove_entry (bytes_eq k) es) ≡ lookup (bytes_eq q) es
        → lookup (bytes_eq q) (cond b es (e ∷ remove_entry (bytes_eq k) es))
        ≡ cond (bytes_eq q e.0) (Some e.1) (lookup (bytes_eq q) es)
    go true d r = sym (ap (λ c. cond c (Some e.1) (lookup (bytes_eq q) es)) (false_from_ne_true (bytes_eq q e.0) (λ w.
        both_ways (bytes_eq k q) h
        (ap (λ x. bytes_eq x q) ((bytes_eq-Decides k e.0).0 d) ∙ nat_list_eq_equiv.symm e.0 q ∙ w))))
    go false d r = ap (cond (bytes_eq q e.0) (Some e.1)) r

-- entries of other names stay
among_without : (k : List ℕ) (all es : Entries) → AllByRecursion (λ q. bytes_eq k q ≡ false) (keys_of es)
    → AreAmong all es → AreAmong (remove_entry (bytes_eq k) all) es
among_without k all [] h f = tt
among_without k all (e ∷ es) h f = (other_name k e.0 all h.0 ∙ f.0, among_without k all es h.1 f.1)

-- entries of distinct names that are all among others sum up to no more
at_most : (xs ys : Entries) → IsDistinct bytes_eq (keys_of xs) → AreAmong ys xs → total xs ≤ total ys
at_most [] ys d f = omega arith
at_most (x ∷ xs) ys d f =
    let others : Entries = remove_entry (bytes_eq x.0) ys in
    let r = at_most xs others (IsDistinct-tail bytes_eq x.0 (keys_of xs) d)
    (among_without x.0 ys xs (IsDistinct-head bytes_eq x.0 (keys_of xs) d) f.1) in
    let s : total others + x.1 ≡ total ys =
    ap (λ o. total others + unwrap_or (option_map (λ n. n) o) 0) (sym f.0)
    ∙ sum_by-remove_entry (λ n. n) (bytes_eq x.0) ys in
    let c : total (x ∷ xs) ≡ x.1 + total xs = sum_by-cons (λ n. n) x.1 (values_of xs) in
    omega (arith, r, s, c)

-- what a name finds in entries that are among others
found_there : (all es : Entries) → AreAmong all es → (k : List ℕ) (n : ℕ) → lookup (bytes_eq k) es ≡ Some n
    → lookup (bytes_eq k) all ≡ Some n
found_there all [] f k n e = absurd (cc)
found_there all (x ∷ es) f k n e = go (bytes_eq k x.0) refl e (found_there all es f.1 k n)
  where
    go : (b : Bool) → bytes_eq k x.0 ≡ b → cond b (Some x.1) (lookup (bytes_eq k) es) ≡ Some n
        → (lookup (bytes_eq k) es ≡ Some n → lookup (bytes_eq k) all ≡ Some n) → lookup (bytes_eq k) all ≡ Some n
    go true d e rest = ap (λ q. lookup (bytes_eq q) all) ((bytes_eq-Decides k x.0).0 d) ∙ f.0 ∙ e
    go false d e rest = rest e

-- entries among others, by names that some of the others have, are among these
among_back : (xs ys es : Entries) → AreAmong ys xs → AreAmong ys es
    → list_all (is_member bytes_eq (keys_of xs)) (keys_of es) ≡ true → AreAmong xs es
among_back xs ys [] f g h = tt
among_back xs ys (e ∷ es) f g h = (
  go (lookup (bytes_eq e.0) xs) refl (is_some-lookup (bytes_eq e.0) xs ∙ (and_parts _ _ h).0),
  among_back xs ys es f g.1 (and_parts _ _ h).1,
)
  where
    go : (o : Option ℕ) → lookup (bytes_eq e.0) xs ≡ o → is_some o ≡ true → lookup (bytes_eq e.0) xs ≡ Some e.1
    go None w s = absurd (cc)
    go (Some n) w s = w ∙ sym (found_there ys xs f e.0 n w) ∙ g.0

-- so the sums are one
pub same_total : (xs ys : Entries) → IsDistinct bytes_eq (keys_of xs) → IsDistinct bytes_eq (keys_of ys)
    → AreAmong ys xs → list_all (is_member bytes_eq (keys_of xs)) (keys_of ys) ≡ true → total xs ≡ total ys
same_total xs ys d e f h =
    let a = at_most xs ys d f in let b = at_most ys xs e (among_back xs ys ys f (all_among ys e) h) in
    omega (arith, a, b)
