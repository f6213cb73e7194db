-- When two trees are one value (Core 4.2.2, "Instance Equality").
use Rattle.std.specs.Prelude.{◌≡◌, ℕ, List, [], ◌∷◌, Bool, true, false, not, ◌&&◌, Some, ⊤}
use Rattle.std.specs.Bool.{beq}
use Rattle.std.specs.List.{list_any, list_all}
use Rattle.std.specs.Map.{lookup}
use Rattle.std.specs.Option.{option_map_or}
use Rattle.std.specs.Str.{bytes_eq}
use Rattle.jskw_value.specs.Number.{Num, num_equal, num_same}
use Rattle.jskw_value.specs.Tree.{Tree, null, boolean, number, string, array, object, Items, no_items, item, Members}
use Rattle.jskw_value.specs.Tree.{no_members, member, is_null, as_boolean, as_number, as_string, is_array, is_object}
use Rattle.jskw_value.specs.Tree.{items, members, names, get, has_name}

-- arrays item by item; objects where each name of the one is a name of the other, with values alike; numbers by the
-- test `numbers`
abbrev mutual
  pub alike : (Num → Num → Bool) → Tree → Tree → Bool
  alike numbers null u = is_null u
  alike numbers (boolean a) u = option_map_or (beq a) (as_boolean u) false
  alike numbers (number n) u = option_map_or (numbers n) (as_number u) false
  alike numbers (string s) u = option_map_or (bytes_eq s) (as_string u) false
  alike numbers (array ts) u = is_array u && items_alike numbers ts (items u)
  alike numbers (object ms) u = is_object u && members_alike numbers ms u && list_all (has_name (object ms)) (names u)

  -- as many on both sides, each alike the other's at its index
  pub items_alike : (Num → Num → Bool) → Items → List Tree → Bool
  items_alike numbers no_items [] = true
  items_alike numbers no_items (u ∷ us) = false
  items_alike numbers (item t ts) [] = false
  items_alike numbers (item t ts) (u ∷ us) = alike numbers t u && items_alike numbers ts us

  -- each name is one of u, with values alike
  pub members_alike : (Num → Num → Bool) → Members → Tree → Bool
  members_alike numbers no_members u = true
  members_alike numbers (member k t ms) u =
      option_map_or (alike numbers t) (get k u) false && members_alike numbers ms u

-- numbers by their mathematical value
abbrev pub equal : Tree → Tree → Bool
equal = alike num_equal

-- numbers as they are written: one tree, whatever the order of its members
abbrev pub same : Tree → Tree → Bool
same = alike num_same

-- u has the member's name, with an equal value
abbrev pub has_equal : Tree → List ℕ × Tree → Bool
has_equal u m = option_map_or (equal m.1) (get m.0 u) false

-- no item equals a later one (Validation 6.4.3)
abbrev pub unique : List Tree → Bool
unique [] = true
unique (t ∷ ts) = not (list_any (equal t) ts) && unique ts

-- each of the pairs is what its name finds among the entries
abbrev pub AreAmong : {V : Type 0} → List (List ℕ × V) → List (List ℕ × V) → Type 0
AreAmong entries [] = ⊤
AreAmong entries (m ∷ ms) = (lookup (bytes_eq m.0) entries ≡ Some m.1) × AreAmong entries ms

-- each of the pairs is a member of t
abbrev pub AreMembers : Tree → List (List ℕ × Tree) → Type 0
AreMembers t ms = AreAmong (members t) ms
