-- Distinct names, one level at a time.
use Rattle.std.proofs.Common.{◌≡◌, ℕ, ◌+◌, ◌<◌, ◌≤◌, List, [], ◌∷◌, length, get_or, drop, Bool, true, false, ◌&&◌, refl}
use Rattle.std.proofs.Common.{ap, ◌∙◌}
use Rattle.std.proofs.lemmas.Bool.{and_from, and_parts, not_from_false, or_from}
use Rattle.std.proofs.lemmas.List.{at_drop_all}
use Rattle.std.proofs.lemmas.Map.Keys.{IsDistinct-head, IsDistinct-tail}
use Rattle.std.specs.List.{list_all, IsDistinct, AllByRecursion}
use Rattle.std.specs.Map.{keys_of, values_of}
use Rattle.std.specs.Set.{is_member}
use Rattle.std.specs.Str.{bytes_eq}
use Rattle.jskw_value.specs.Tree.{Tree, array, object, Items, no_items, item, Members, no_members, member, item_list}
use Rattle.jskw_value.specs.Tree.{member_list, items, names, values, is_array, is_object, has_distinct_names}
use Rattle.jskw_value.specs.Tree.{items_distinct, members_distinct}
use Rattle.jskw_value.proofs.Depth.{height_below, item_depth}
use Rattle.jskw_value.proofs.Lists.{at_index}

-- the items as a list
items_list : (ts : Items) → items_distinct ts ≡ list_all has_distinct_names (item_list ts)
items_list no_items = refl
items_list (item t ts) = ap (λ b. has_distinct_names t && b) (items_list ts)

-- an array's names are distinct where its items' are
pub distinct_in_array : (t : Tree) → is_array t ≡ true → list_all has_distinct_names (items t) ≡ true
    → has_distinct_names t ≡ true
distinct_in_array (array ts) h e = items_list ts ∙ e
distinct_in_array _ h e = cc

-- a name that differs from each is none of them
pub not_among : (k : List ℕ) (ks : List (List ℕ)) → AllByRecursion (λ l. bytes_eq k l ≡ false) ks
    → is_member bytes_eq ks k ≡ false
not_among k [] h = refl
not_among k (l ∷ ks) h = or_from _ _ h.0 (not_among k ks h.1)

-- the members as a list
members_list : (ms : Members) → IsDistinct bytes_eq (keys_of (member_list ms))
    → list_all has_distinct_names (values_of (member_list ms)) ≡ true → members_distinct ms ≡ true
members_list no_members d e = refl
members_list (member k t ms) d e = and_from _ _
    (and_from _ _ (not_from_false _ (not_among k _ (IsDistinct-head bytes_eq k (keys_of (member_list ms)) d)))
    (and_parts _ _ e).0)
    (members_list ms (IsDistinct-tail bytes_eq k (keys_of (member_list ms)) d) (and_parts _ _ e).1)

-- an object's names are distinct where its own and its members' are
pub distinct_in_object : (t : Tree) → is_object t ≡ true → IsDistinct bytes_eq (names t)
    → list_all has_distinct_names (values t) ≡ true → has_distinct_names t ≡ true
distinct_in_object (object ms) h d e = members_list ms d e
distinct_in_object _ h d e = cc

-- what is neither an array nor an object has no name twice
pub distinct_elsewhere : (t : Tree) → is_array t ≡ false → is_object t ≡ false → has_distinct_names t ≡ true
distinct_elsewhere (array ts) h k = cc
distinct_elsewhere (object ms) h k = cc
distinct_elsewhere _ h k = refl

-- a test of the rest, one index on
pub all_step : (p : Tree → Bool) (ts : List Tree) (i : ℕ) (t : Tree) → i < length ts → t ≡ get_or ts i t
    → list_all p (drop i ts) ≡ (p t && list_all p (drop (i + 1) ts))
all_step p ts i t h e = at_index (list_all p) ts i t h e

-- a test of all holds of no rest
pub all_end : (p : Tree → Bool) (ts : List Tree) (n : ℕ) → length ts ≤ n → list_all p (drop n ts) ≡ true
all_end p ts n h = at_drop_all (list_all p) ts n h

pub ruleset by_level = (distinct_in_array, distinct_in_object, distinct_elsewhere)

pub ruleset by_index = (all_step, all_end, item_depth, height_below)
