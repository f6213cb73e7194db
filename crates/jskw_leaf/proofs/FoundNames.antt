-- How many of the names that are wanted an object has: its names are distinct, and the wanted ones too.
use Rattle.std.proofs.Common.{◌≡◌, ◌≢◌, ℕ, suc, ◌+◌, ◌<◌, ◌≤◌, ◌==◌, ◌||◌, List, [], ◌∷◌, length, drop, get_or, filter}
use Rattle.std.proofs.Common.{Bool, true, false, not, ◌&&◌, cond, count_by, String, Global, string_bytes, map, take}
use Rattle.std.proofs.Common.{refl, sym, ap, subst, ◌∙◌, arith}
use Rattle.std.proofs.Math.Bool.{and-true}
use Rattle.std.proofs.lemmas.Bool.{eq-eqb, ne_eqb}
use Rattle.std.proofs.lemmas.Cmp.{nat_list_eq_equiv}
use Rattle.std.proofs.lemmas.List.{at_drop_all, drop_more, take_all}
use Rattle.std.proofs.lemmas.List.Elements.{All-head, All-tail, All-weaker, filter_passes}
use Rattle.std.proofs.lemmas.List.Folds.{list_all_at, list_all_more, list_all-map}
use Rattle.std.proofs.lemmas.List.Kept.{AllPairs-filter}
use Rattle.std.proofs.lemmas.List.Sorted.{list_any-IsPermutation}
use Rattle.std.proofs.lemmas.List.Sums.{count_by-le-length, length-filter, list_all-from_AllPass, sum_by-cons}
use Rattle.std.proofs.lemmas.Map.Made.{All-is_member, AllPairs-from_IsDistinct, IsDistinct-from_AllPairs}
use Rattle.std.proofs.lemmas.Map.Made.{alike_from_same, is_member-filter, length-le_from_is_member}
use Rattle.std.proofs.lemmas.Slice.Eq.{bytes_eq-Decides}
use Rattle.std.specs.List.{All, list_all, list_any, IsDistinct}
use Rattle.std.specs.List.Sorted.{IsPermutation}
use Rattle.std.specs.Map.{keys_of}
use Rattle.std.specs.Str.{bytes_eq}
use Rattle.jskw_value.specs.Tree.{Tree, has_name, members, names}
use Rattle.jskw_value.proofs.SameNames.{among_all, same_length}
use Rattle.jskw_leaf.specs.Required.{is_among}

-- ---- the wanted names of an object

-- those of its names that are wanted
abbrev wanted : Tree → List (List ℕ) → List (List ℕ)
wanted t ws = filter (is_among ws) (names t)

wanted_distinct : (t : Tree) (ws : List (List ℕ)) → IsDistinct bytes_eq (names t) → IsDistinct bytes_eq (wanted t ws)
wanted_distinct t ws d =
    IsDistinct-from_AllPairs bytes_eq-Decides _
    (AllPairs-filter (λ x y. x ≢ y) (is_among ws) (names t) (AllPairs-from_IsDistinct bytes_eq-Decides (names t) d))

all_wanted : (t : Tree) (ws : List (List ℕ)) → list_all (is_among ws) (wanted t ws) ≡ true
all_wanted t ws = list_all-from_AllPass (is_among ws) (wanted t ws) (filter_passes (is_among ws) (names t))

-- two tests that agree at each name hold of all or not alike
agree : (p q : List ℕ → Bool) (ws : List (List ℕ)) → All (λ w. p w ≡ q w) ws → list_all p ws ≡ list_all q ws
agree p q [] h = refl
agree p q (w ∷ ws) h = rw (All-head (λ w. p w ≡ q w) w ws h, agree p q ws (All-tail (λ w. p w ≡ q w) w ws h)) refl

-- an object has all exactly where it has as many
all_if_as_many : (t : Tree) (ws : List (List ℕ)) → IsDistinct bytes_eq (names t) → IsDistinct bytes_eq ws
    → list_all (has_name t) ws ≡ (count_by (is_among ws) (names t) == length ws)
all_if_as_many t ws d e =
    sym (agree (is_among (wanted t ws)) (has_name t) ws
    (All-weaker (λ w. is_among ws w ≡ true) (λ w. is_among (wanted t ws) w ≡ has_name t w) named ws
    (All-is_member nat_list_eq_equiv ws)))
    ∙ same_length (wanted t ws) ws (wanted_distinct t ws d) e (all_wanted t ws)
    ∙ ap (λ n. n == length ws) (length-filter (is_among ws) (names t))
  where
    named : (w : List ℕ) → is_among ws w ≡ true → is_among (wanted t ws) w ≡ has_name t w
    named w h =
        is_member-filter nat_list_eq_equiv (is_among ws) w (alike_from_same bytes_eq-Decides (is_among ws) w) (names t)
        ∙ rw h (and-true (has_name t w))

-- at most as many of an object's names are wanted as there are wanted names
pub found_at_most : (t : Tree) (ws : List (List ℕ)) → IsDistinct bytes_eq (names t) → IsDistinct bytes_eq ws
    → count_by (is_among ws) (names t) ≤ length ws
found_at_most t ws d e =
    let most =
    length-le_from_is_member nat_list_eq_equiv (wanted t ws) ws (wanted_distinct t ws d)
    (among_all (wanted t ws) ws (all_wanted t ws)) in
    omega (arith, most, length-filter (is_among ws) (names t))

-- each wanted name is there where as many are found
pub all_found : (t : Tree) (ws : List (List ℕ)) → IsDistinct bytes_eq (names t) → IsDistinct bytes_eq ws
    → length ws ≤ count_by (is_among ws) (names t) → list_all (has_name t) ws ≡ true
all_found t ws d e h = all_if_as_many t ws d e ∙ eq-eqb _ _ (omega (arith, h, found_at_most t ws d e))

pub not_all_found : (t : Tree) (ws : List (List ℕ)) → IsDistinct bytes_eq (names t) → IsDistinct bytes_eq ws
    → count_by (is_among ws) (names t) < length ws → list_all (has_name t) ws ≡ false
not_all_found t ws d e h = all_if_as_many t ws d e ∙ ne_eqb _ _ (λ s. omega (arith, h, s))

-- an object of fewer members than wanted names lacks one
pub too_few : (t : Tree) (ws : List (List ℕ)) → IsDistinct bytes_eq (names t) → IsDistinct bytes_eq ws
    → length (members t) < length ws → list_all (has_name t) ws ≡ false
too_few t ws d e h =
    not_all_found t ws d e (omega (arith, h, length_names (members t), count_by-le-length (is_among ws) (names t)))
  where
    length_names : (ms : List (List ℕ × Tree)) → length ms ≡ length (keys_of ms)
    length_names [] = refl
    length_names (m ∷ ms) = ap suc (length_names ms)

-- the first of the names is one of those that are counted
pub count_hit : (p : List ℕ → Bool) (ks : List (List ℕ)) (k : List ℕ) (rest : List (List ℕ)) → ks ≡ k ∷ rest
    → p k ≡ true → count_by p ks ≡ 1 + count_by p rest
count_hit p ks k rest e h =
    ap (count_by p) e ∙ sum_by-cons (λ x. cond (p x) 1 0) k rest ∙ ap (λ b. cond b 1 0 + count_by p rest) h

-- ---- look-ups, one name at a time

pub all_step : (t : Tree) (ws : List (List ℕ)) (i : ℕ) (w : List ℕ) → i < length ws → w ≡ get_or ws i w
    → list_all (has_name t) (drop i ws) ≡ (has_name t w && list_all (has_name t) (drop (i + 1) ws))
all_step t ws i w h e =
    ap (list_all (has_name t)) (drop_more ws i w h)
    ∙ ap (λ x. has_name t x && list_all (has_name t) (drop (i + 1) ws)) (sym e)

pub all_end : (t : Tree) (ws : List (List ℕ)) (n : ℕ) → length ws ≤ n → list_all (has_name t) (drop n ws) ≡ true
all_end t ws n h = at_drop_all (list_all (has_name t)) ws n h

-- ---- names beside the members

-- an object has the names of its members
pub own_names : (t : Tree) → list_all (has_name t) (names t) ≡ true
own_names t = list_all-from_AllPass (has_name t) (names t) (All-is_member nat_list_eq_equiv (names t))

-- one name more is found
pub one_more : (t : Tree) (ns : List (String Global)) (i : ℕ) (n : String Global) → i < length ns → n ≡ get_or ns i n
    → has_name t (string_bytes n) ≡ true
    → list_all (λ m. has_name t (string_bytes m)) (take i ns) ≡ true
    → list_all (λ m. has_name t (string_bytes m)) (take (i + 1) ns) ≡ true
one_more t ns i n h e k a =
    let p : String Global → Bool = λ m. has_name t (string_bytes m) in
    list_all_more p ns i n h ∙ rw (a, ← e, k) refl

-- all are found behind the last one
pub all_beside : (t : Tree) (ns : List (String Global)) (i : ℕ) → length ns ≤ i
    → list_all (λ m. has_name t (string_bytes m)) (take i ns) ≡ true
    → list_all (λ m. has_name t (string_bytes m)) ns ≡ true
all_beside t ns i h a = subst (λ ms. list_all (λ m. has_name t (string_bytes m)) ms ≡ true) (take_all i ns h) a

-- one that the object lacks decides
pub one_missing : (t : Tree) (ns : List (String Global)) (i : ℕ) (n : String Global) → i < length ns → n ≡ get_or ns i n
    → has_name t (string_bytes n) ≡ false
    → list_all (λ m. has_name t (string_bytes m)) ns ≡ false
one_missing t ns i n h e k = list_all_at (λ m. has_name t (string_bytes m)) ns i n h (rw (← e) k)

-- all pass where none fails
none_fails : (p : List ℕ → Bool) (ws : List (List ℕ)) → list_all p ws ≡ not (list_any (λ w. not (p w)) ws)
none_fails p [] = refl
none_fails p (w ∷ ws) = ap (λ b. p w && b) (none_fails p ws) ∙ go (p w)
  where
    go : (b : Bool) → (b && not (list_any (λ w. not (p w)) ws)) ≡ not (not b || list_any (λ w. not (p w)) ws)
    go true = refl
    go false = refl

-- the table has the same names
pub all_in_table : (t : Tree) (ws : List (List ℕ)) (ns : List (String Global))
    → IsPermutation ws (map string_bytes ns)
    → list_all (λ m. has_name t (string_bytes m)) ns ≡ list_all (has_name t) ws
all_in_table t ws ns h = sym (list_all-map (has_name t) string_bytes ns)
    ∙ none_fails (has_name t) (map string_bytes ns)
    ∙ ap not (sym (list_any-IsPermutation (λ w. not (has_name t w)) ws (map string_bytes ns) h))
    ∙ sym (none_fails (has_name t) ws)
