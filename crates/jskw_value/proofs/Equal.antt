-- Equality, one item or member at a time.
use Rattle.std.proofs.Common.{◌≡◌, ℕ, zero, suc, ◌+◌, ◌<◌, ◌≤◌, ◌==◌, List, [], ◌∷◌, length, get_or, drop, Bool, true}
use Rattle.std.proofs.Common.{false, not, ◌&&◌, ◌||◌, Some, refl, sym, ap, ap₂, subst, ◌∙◌, arith}
use Rattle.std.proofs.Math.Bool.{and-false, and-true}
use Rattle.std.proofs.lemmas.Cmp.{nat_list_eq_equiv}
use Rattle.std.proofs.lemmas.List.{at_drop_all, drop_all}
use Rattle.std.proofs.lemmas.Option.{same_Some}
use Rattle.std.proofs.lemmas.Map.Entries.{length-keys_of}
use Rattle.std.proofs.lemmas.Map.Keys.{IsDistinct-head, IsDistinct-tail}
use Rattle.std.proofs.lemmas.Slice.Eq.{bytes_eq-Decides}
use Rattle.std.specs.Cmp.Lexicographic.{pointwise}
use Rattle.std.specs.List.{list_all, list_any, IsDistinct, AllByRecursion}
use Rattle.std.specs.Map.{keys_of}
use Rattle.std.specs.Option.{option_map_or}
use Rattle.std.specs.Str.{bytes_eq}
use Rattle.jskw_value.specs.Equality.{equal, has_equal, unique, items_alike, members_alike, AreAmong, AreMembers}
use Rattle.jskw_value.specs.Number.{Num, num_equal}
use Rattle.jskw_value.specs.Tree.{Tree, number, array, object, Items, no_items, item, Members, no_members, member}
use Rattle.jskw_value.specs.Tree.{item_list, member_list, items, members, names, get, has_name, as_number, is_array}
use Rattle.jskw_value.specs.Tree.{is_object}
use Rattle.jskw_value.proofs.AlikeTrees.{names_found}
use Rattle.jskw_value.proofs.Depth.{item_depth}
use Rattle.jskw_value.proofs.Lists.{at_index}
use Rattle.jskw_value.proofs.SameNames.{same_length}

-- ---- numbers

-- a number equals the numbers of its value alone
pub equal_number : (t u : Tree) (n : Num) → as_number t ≡ Some n
    → equal t u ≡ option_map_or (num_equal n) (as_number u) false
equal_number (number m) u n e = ap (λ x. option_map_or (num_equal x) (as_number u) false) (same_Some m n e)
equal_number _ u n e = cc

-- ---- arrays

-- the items as a list
items_equal : (ts : Items) (us : List Tree) → items_alike num_equal ts us ≡ pointwise equal (item_list ts) us
items_equal no_items [] = refl
items_equal no_items (u ∷ us) = refl
items_equal (item t ts) [] = refl
items_equal (item t ts) (u ∷ us) = ap (λ b. equal t u && b) (items_equal ts us)

-- arrays are equal index by index
pub equal_arrays : (t u : Tree) → is_array t ≡ true → is_array u ≡ true
    → equal t u ≡ pointwise equal (items t) (items u)
equal_arrays (array ts) u h k = rw (k, items_equal ts (items u))
equal_arrays _ u h k = cc

-- equality of the rests, one index on
pub pointwise_step : (ts us : List Tree) (i : ℕ) (t u : Tree) → i < length ts → i < length us → t ≡ get_or ts i t
    → u ≡ get_or us i u
    → pointwise equal (drop i ts) (drop i us) ≡ (equal t u && pointwise equal (drop (i + 1) ts) (drop (i + 1) us))
pointwise_step ts us i t u h k e f =
    at_index (λ xs. pointwise equal xs (drop i us)) ts i t h e
    ∙ at_index (λ ys. pointwise equal (t ∷ drop (i + 1) ts) ys) us i u k f

-- equality of the rests behind the last index
pub pointwise_end : (ts us : List Tree) (n : ℕ) → n ≡ length ts → n ≡ length us
    → pointwise equal (drop n ts) (drop n us) ≡ true
pointwise_end ts us n h k = ap₂ (pointwise equal) (drop_all n ts (omega (arith, h))) (drop_all n us (omega (arith, k)))

-- lists of two lengths are not equal
pub pointwise_length : (ts us : List Tree) → (length ts ≡ length us → ⊥) → pointwise equal ts us ≡ false
pointwise_length [] [] h = absurd (h refl)
pointwise_length [] (u ∷ us) h = refl
pointwise_length (t ∷ ts) [] h = refl
pointwise_length (t ∷ ts) (u ∷ us) h = rw (pointwise_length ts us (λ e. h (omega (arith, e)))) (and-false (equal t u))

-- arrays differ where the items at an index do
pub other_item : (ts us : List Tree) (i : ℕ) (t u : Tree) → i < length ts → i < length us → t ≡ get_or ts i t
    → u ≡ get_or us i u
    → equal t u ≡ false → pointwise equal ts us ≡ false
other_item [] us i t u h k e f n = absurd (omega (arith, h))
other_item (x ∷ xs) [] i t u h k e f n = absurd (omega (arith, k))
other_item (x ∷ xs) (y ∷ ys) zero t u h k e f n =
    ap (λ b. b && pointwise equal xs ys) (sym (ap₂ equal e f) ∙ n)
other_item (x ∷ xs) (y ∷ ys) (suc i) t u h k e f n =
    rw (other_item xs ys i t u (omega (arith, h)) (omega (arith, k)) e f n) (and-false (equal x y))

-- ---- objects

-- the members as a list
members_equal : (ms : Members) (u : Tree) → members_alike num_equal ms u ≡ list_all (has_equal u) (member_list ms)
members_equal no_members u = refl
members_equal (member k t ms) u = ap (λ b. has_equal u (k, t) && b) (members_equal ms u)

-- where each of the left is found on the right, each name of the right is one of the left exactly where both have as
-- many
pub equal_objects : (t u : Tree) → is_object t ≡ true → is_object u ≡ true → IsDistinct bytes_eq (names t)
    → IsDistinct bytes_eq (names u)
    → equal t u ≡ ((length (members t) == length (members u)) && list_all (has_equal u) (members t))
equal_objects (object ms) u h k d e = rw (k, members_equal ms u) (go (list_all (has_equal u) (member_list ms)) refl)
  where
    go : (b : Bool) → list_all (has_equal u) (member_list ms) ≡ b
        → (b && list_all (has_name (object ms)) (names u)) ≡ ((length (member_list ms) == length (members u)) && b)
    go true x =
        same_length (keys_of (member_list ms)) (names u) d e (names_found num_equal ms u (members_equal ms u ∙ x))
        ∙ ap₂ (λ m n. m == n) (length-keys_of (member_list ms)) (length-keys_of (members u)) ∙ sym (and-true _)
    go false x = sym (and-false _)
equal_objects _ u h k d e = cc

-- ---- the members of an object by their names

-- one entry more in front, of another name
past_first : {V : Type 0} (x : List ℕ × V) (all ms : List (List ℕ × V))
    → AllByRecursion (λ y. bytes_eq x.0 y ≡ false) (keys_of ms) → AreAmong all ms → AreAmong (x ∷ all) ms
past_first x all [] h e = tt
past_first x all (m ∷ ms) h e = (rw (nat_list_eq_equiv.symm m.0 x.0, h.0) e.0, past_first x all ms h.1 e.1)

-- entries with distinct names are among themselves
pub all_among : {V : Type 0} (ms : List (List ℕ × V)) → IsDistinct bytes_eq (keys_of ms) → AreAmong ms ms
all_among [] d = tt
all_among (m ∷ ms) d =
    let later = all_among ms (IsDistinct-tail bytes_eq m.0 (keys_of ms) d) in
    (rw (nat_list_eq_equiv.refl m.0) refl, past_first m ms ms (IsDistinct-head bytes_eq m.0 (keys_of ms) d) later)

-- each member is what its name finds, where the names are distinct
pub all_members : (t : Tree) → IsDistinct bytes_eq (names t) → AreMembers t (members t)
all_members t d = all_among (members t) d

-- the next member is what its name finds
pub next_found : (t : Tree) (k name : List ℕ) (v : Tree) (ms : List (List ℕ × Tree)) → AreMembers t ((k, v) ∷ ms)
    → bytes_eq k name ≡ true → get name t ≡ Some v
next_found t k name v ms h e = subst (λ n. get n t ≡ Some v) ((bytes_eq-Decides k name).0 e) h.0

-- ---- uniqueness

-- uniqueness of the rest, one index on
pub unique_step : (ts : List Tree) (i : ℕ) (t : Tree) → i < length ts → t ≡ get_or ts i t
    → unique (drop i ts) ≡ (not (list_any (equal t) (drop (i + 1) ts)) && unique (drop (i + 1) ts))
unique_step ts i t h e = at_index unique ts i t h e

-- no rest is unique
pub unique_end : (ts : List Tree) (n : ℕ) → length ts ≤ n → unique (drop n ts) ≡ true
unique_end ts n h = at_drop_all unique ts n h

-- a search in the rest, one index on
pub any_step : (p : Tree → Bool) (ts : List Tree) (i : ℕ) (t : Tree) → i < length ts → t ≡ get_or ts i t
    → list_any p (drop i ts) ≡ (p t || list_any p (drop (i + 1) ts))
any_step p ts i t h e = at_index (list_any p) ts i t h e

-- a search finds nothing in no rest
pub any_end : (p : Tree → Bool) (ts : List Tree) (n : ℕ) → length ts ≤ n → list_any p (drop n ts) ≡ false
any_end p ts n h = at_drop_all (list_any p) ts n h

pub ruleset by_level = (equal_number, equal_arrays, equal_objects)

pub ruleset by_index = (pointwise_step, pointwise_end, pointwise_length, item_depth)
