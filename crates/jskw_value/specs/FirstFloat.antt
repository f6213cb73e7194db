-- The location of the first float of a tree.
use Rattle.std.specs.Prelude.{ℕ, suc, List, [], ◌∷◌, ◌++◌, Option, Some, None, option_map}
use Rattle.std.specs.Option.{option_or}
use Rattle.jskw_value.specs.Number.{float}
use Rattle.jskw_value.specs.Pointer.{Pointer, name_token, index_token}
use Rattle.jskw_value.specs.Tree.{Tree, number, array, object, Items, no_items, item, Members, no_members, member}

-- a location in an item, from the array on
abbrev pub below_index : ℕ → Pointer → Pointer
below_index i p = index_token i ++ p

-- a location in a member, from the object on
abbrev pub below_name : List ℕ → Pointer → Pointer
below_name k p = name_token k ++ p

-- the first float of a tree: depth first, items by index, members in the order in which they stand
abbrev mutual
  pub first_float : Tree → Option Pointer
  first_float (number float) = Some []
  first_float (array ts) = items_float 0 ts
  first_float (object ms) = members_float ms
  first_float _ = None

  -- the first float among the items from index i on
  pub items_float : ℕ → Items → Option Pointer
  items_float i no_items = None
  items_float i (item t ts) = option_or (option_map (below_index i) (first_float t)) (items_float (suc i) ts)

  -- the first float among the members
  pub members_float : Members → Option Pointer
  members_float no_members = None
  members_float (member k t ms) = option_or (option_map (below_name k) (first_float t)) (members_float ms)

-- the first float among the items of a list, the first of which has index i
abbrev pub float_from : ℕ → List Tree → Option Pointer
float_from i [] = None
float_from i (t ∷ ts) = option_or (option_map (below_index i) (first_float t)) (float_from (suc i) ts)

-- the first float among the members of a list
abbrev pub float_among : List (List ℕ × Tree) → Option Pointer
float_among [] = None
float_among (m ∷ ms) = option_or (option_map (below_name m.0) (first_float m.1)) (float_among ms)
