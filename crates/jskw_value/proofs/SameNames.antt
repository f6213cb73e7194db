-- Distinct names, as many on both sides, each of the left found on the right: then each of the right is found on the
-- left.
use Rattle.std.proofs.Common.{◌≡◌, ℕ, ◌≤◌, ◌==◌, List, [], ◌∷◌, length, Bool, true, false, ◌&&◌, ap, sym, ◌∙◌, arith}
use Rattle.std.proofs.lemmas.Bool.{or_parts, true_from_ne_false}
use Rattle.std.proofs.lemmas.Bool.Decides.{Decides-eqb, same_from_decides}
use Rattle.std.proofs.lemmas.Cmp.{nat_list_eq_equiv}
use Rattle.std.proofs.lemmas.List.Elements.{All-contains, All-weaker}
use Rattle.std.proofs.lemmas.List.Sums.{AllPass-from_list_all, list_all-from_AllPass}
use Rattle.std.proofs.lemmas.Map.Keys.{IsDistinct-cons}
use Rattle.std.proofs.lemmas.Map.Made.{All-is_member, is_member-Decides, is_some-lookup, length-le_from_is_member}
use Rattle.std.proofs.lemmas.Slice.Eq.{bytes_eq-Decides}
use Rattle.std.specs.List.{list_all, IsDistinct, AllByRecursion}
use Rattle.std.specs.Option.{is_some, option_map_or}
use Rattle.std.specs.Set.{is_member}
use Rattle.std.specs.Str.{bytes_eq}
use Rattle.jskw_value.specs.Tree.{Tree, get, has_name, members}
use Rattle.jskw_value.proofs.Lookups.{passed}

-- what is among the left is among the right, where each of the left is
pub among_all : (xs ys : List (List ℕ)) → list_all (is_member bytes_eq ys) xs ≡ true → (q : List ℕ)
    → is_member bytes_eq xs q ≡ true → is_member bytes_eq ys q ≡ true
among_all xs ys h q e =
    All-contains (λ k. is_member bytes_eq ys k ≡ true) xs q
    (AllPass-from_list_all (is_member bytes_eq ys) xs h) ((is_member-Decides bytes_eq-Decides xs q).0 e)

-- a test that holds of each name holds of all
pub all_from_each : (p : List ℕ → Bool) (ys : List (List ℕ))
    → ((q : List ℕ) → is_member bytes_eq ys q ≡ true → p q ≡ true) → list_all p ys ≡ true
all_from_each p ys h =
    list_all-from_AllPass p ys
    (All-weaker (λ q. is_member bytes_eq ys q ≡ true) (λ q. p q ≡ true) h ys (All-is_member nat_list_eq_equiv ys))

-- a name that is not among others differs from each
pub apart : (y : List ℕ) (xs : List (List ℕ)) → is_member bytes_eq xs y ≡ false
    → AllByRecursion (λ x. bytes_eq y x ≡ false) xs
apart y [] h = tt
apart y (x ∷ xs) h = let p = or_parts (bytes_eq y x) (is_member bytes_eq xs y) h in (p.0, apart y xs p.1)

-- each of the right is found on the left exactly where both have as many
pub same_length : (xs ys : List (List ℕ)) → IsDistinct bytes_eq xs → IsDistinct bytes_eq ys
    → list_all (is_member bytes_eq ys) xs ≡ true → list_all (is_member bytes_eq xs) ys ≡ (length xs == length ys)
same_length xs ys d e h =
    same_from_decides {P = length xs ≡ length ys} _ _ (as_many, all_found) (Decides-eqb (length xs) (length ys))
  where
    as_many : list_all (is_member bytes_eq xs) ys ≡ true → length xs ≡ length ys
    as_many f =
        let up : length xs ≤ length ys = length-le_from_is_member nat_list_eq_equiv xs ys d (among_all xs ys h) in
        let down : length ys ≤ length xs = length-le_from_is_member nat_list_eq_equiv ys xs e (among_all ys xs f) in
        omega arith

    -- with a name of the right that the left lacks, the left would be longer than the right
    longer : (q : List ℕ) → is_member bytes_eq ys q ≡ true → is_member bytes_eq xs q ≡ false
        → length (q ∷ xs) ≤ length ys
    longer q m f =
        length-le_from_is_member nat_list_eq_equiv (q ∷ xs) ys (IsDistinct-cons bytes_eq q xs (apart q xs f) d)
        (among_all (q ∷ xs) ys (ap (λ b. b && list_all (is_member bytes_eq ys) xs) m ∙ h))

    all_found : length xs ≡ length ys → list_all (is_member bytes_eq xs) ys ≡ true
    all_found c =
        all_from_each (is_member bytes_eq xs) ys
        (λ q m. true_from_ne_false _ (λ f. let l = longer q m f in omega arith))

-- a test that holds of the member of a name finds the name
pub named_from_test : (p : Tree → Bool) (k : List ℕ) (u : Tree) → option_map_or p (get k u) false ≡ true
    → has_name u k ≡ true
named_from_test p k u h = let found = passed p (get k u) h in
    sym (is_some-lookup (bytes_eq k) (members u)) ∙ ap is_some found.1.0
