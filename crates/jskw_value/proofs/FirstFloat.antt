-- The location of the first float, one index at a time.
use Rattle.std.proofs.Common.{◌≡◌, ℕ, suc, ◌+◌, ◌<◌, ◌≤◌, List, length, get_or, drop, Bool, true, Option, Some, None}
use Rattle.std.proofs.Common.{is_none, ◌&&◌, option_map, String, Global, string_bytes, refl, sym, ap, ◌∙◌, add-one}
use Rattle.std.proofs.lemmas.List.{at_drop_all}
use Rattle.std.specs.Option.{option_or}
use Rattle.jskw_value.specs.FirstFloat.{first_float, items_float, members_float, float_from, float_among, below_index}
use Rattle.jskw_value.specs.FirstFloat.{below_name}
use Rattle.jskw_value.specs.Number.{exact, float}
use Rattle.jskw_value.specs.Tree.{Tree, null, boolean, number, string, array, object, Items, no_items, item, Members}
use Rattle.jskw_value.specs.Tree.{no_members, member, item_list, member_list, items, members, is_array, is_object}
use Rattle.jskw_value.specs.Tree.{is_lawful, items_lawful, members_lawful}
use Rattle.jskw_value.proofs.Depth.{height_below, item_depth}
use Rattle.jskw_value.proofs.Lists.{at_index}

-- the items as a list
items_float_list : (i : ℕ) (ts : Items) → items_float i ts ≡ float_from i (item_list ts)
items_float_list i no_items = refl
items_float_list i (item t ts) =
    ap (option_or (option_map (below_index i) (first_float t))) (items_float_list (suc i) ts)

-- the members as a list
members_float_list : (ms : Members) → members_float ms ≡ float_among (member_list ms)
members_float_list no_members = refl
members_float_list (member k t ms) = ap (option_or (option_map (below_name k) (first_float t))) (members_float_list ms)

-- the first float of an array
pub first_in_array : (t : Tree) → is_array t ≡ true → first_float t ≡ float_from 0 (items t)
first_in_array (array ts) h = items_float_list 0 ts
first_in_array _ h = cc

-- the first float of an object
pub first_in_object : (t : Tree) → is_object t ≡ true → first_float t ≡ float_among (members t)
first_in_object (object ms) h = members_float_list ms
first_in_object _ h = cc

-- among the rest of the items, one index on
pub from_step : (ts : List Tree) (i : ℕ) (t : Tree) → i < length ts → t ≡ get_or ts i t
    → float_from i (drop i ts)
    ≡ option_or (option_map (below_index i) (first_float t)) (float_from (i + 1) (drop (i + 1) ts))
from_step ts i t h e =
    at_index (float_from i) ts i t h e
    ∙ ap (λ n. option_or (option_map (below_index i) (first_float t)) (float_from n (drop (i + 1) ts)))
    (sym (add-one i))

-- none is in no rest
pub from_end : (n : ℕ) (ts : List Tree) (i : ℕ) → length ts ≤ i → float_from n (drop i ts) ≡ None
from_end n ts i h = at_drop_all (float_from n) ts i h

-- the first float of an array is that of an item before which there is none
pub found_in_item : (t u : Tree) (i : ℕ) (p q : List ℕ) → is_array t ≡ true
    → float_from 0 (items t) ≡ float_from i (drop i (items t)) → i < length (items t) → u ≡ get_or (items t) i u
    → Some p ≡ first_float u → q ≡ below_index i p → Some q ≡ first_float t
found_in_item t u i p q is before below at found place =
    let rest = float_from (i + 1) (drop (i + 1) (items t)) in
    ap Some place
    ∙ sym (first_in_array t is ∙ before ∙ from_step (items t) i u below at
    ∙ ap (λ o. option_or (option_map (below_index i) o) rest) (sym found))

-- ---- no float exactly where lawful

-- neither of two is there
none_in_either : (f : List ℕ → List ℕ) (o q : Option (List ℕ)) (a b : Bool) → is_none o ≡ a → is_none q ≡ b
    → is_none (option_or (option_map f o) q) ≡ (a && b)
none_in_either f None q a b e h = rw (← e, h) refl
none_in_either f (Some p) q a b e h = rw (← e) refl

mutual
  -- a tree has no first float exactly where it is lawful
  pub none_where_lawful : (t : Tree) → is_none (first_float t) ≡ is_lawful t
  none_where_lawful null = refl
  none_where_lawful (boolean b) = refl
  none_where_lawful (number (exact c k)) = refl
  none_where_lawful (number float) = refl
  none_where_lawful (string s) = refl
  none_where_lawful (array ts) = none_in_items 0 ts
  none_where_lawful (object ms) = none_in_members ms

  -- items have none exactly where they are lawful
  none_in_items : (i : ℕ) (ts : Items) → is_none (items_float i ts) ≡ items_lawful ts
  none_in_items i no_items = refl
  none_in_items i (item t ts) =
      none_in_either (below_index i) (first_float t) (items_float (suc i) ts) _ _ (none_where_lawful t)
      (none_in_items (suc i) ts)

  -- members have none exactly where they are lawful
  none_in_members : (ms : Members) → is_none (members_float ms) ≡ members_lawful ms
  none_in_members no_members = refl
  none_in_members (member k t ms) =
      none_in_either (below_name k) (first_float t) (members_float ms) _ _ (none_where_lawful t) (none_in_members ms)

-- a text is there exactly where its bytes are
none_of_location : (o : Option (String Global)) → is_none (option_map string_bytes o) ≡ is_none o
none_of_location None = refl
none_of_location (Some s) = refl

-- no location was found exactly where the tree is lawful
pub none_from_location : (o : Option (String Global)) (t : Tree) → option_map string_bytes o ≡ first_float t
    → is_none o ≡ is_lawful t
none_from_location o t e = sym (none_of_location o) ∙ ap is_none e ∙ none_where_lawful t

pub ruleset by_level = (first_in_array, first_in_object)

pub ruleset by_index = (from_step, from_end, item_depth, height_below)
