-- A JSON value as a tree (Core 4.2.1, "Instance Data Model"). Sections are those of Draft 2020-12.
use Rattle.std.specs.Prelude.{ℕ, List, [], ◌∷◌, Bool, true, false, not, ◌&&◌, Option, Some, None}
use Rattle.std.specs.Map.{lookup, keys_of, values_of}
use Rattle.std.specs.Set.{is_member}
use Rattle.std.specs.Str.{bytes_eq}
use Rattle.jskw_value.specs.Number.{Num, is_exact}

-- null, a boolean, a number, a string, an array or an object; the members of an object stand in some order, which only
-- the first float asks for
mutual
  pub data Tree : Type 0 where
    null : Tree
    boolean : Bool → Tree
    number : Num → Tree
    string : List ℕ → Tree
    array : Items → Tree
    object : Members → Tree

  -- the items of an array, from its first on
  pub data Items : Type 0 where
    no_items : Items
    item : Tree → Items → Items

  -- the members of an object, each a name beside a tree
  pub data Members : Type 0 where
    no_members : Members
    member : List ℕ → Tree → Members → Members

-- ---- one level

-- whether it is null
abbrev pub is_null : Tree → Bool
is_null null = true
is_null _ = false

-- the boolean, where it is one
abbrev pub as_boolean : Tree → Option Bool
as_boolean (boolean b) = Some b
as_boolean _ = None

-- the number, where it is one
abbrev pub as_number : Tree → Option Num
as_number (number n) = Some n
as_number _ = None

-- the bytes of the string, where it is one
abbrev pub as_string : Tree → Option (List ℕ)
as_string (string s) = Some s
as_string _ = None

-- whether it is an array
abbrev pub is_array : Tree → Bool
is_array (array ts) = true
is_array _ = false

-- whether it is an object
abbrev pub is_object : Tree → Bool
is_object (object ms) = true
is_object _ = false

-- the items as a list
abbrev pub item_list : Items → List Tree
item_list no_items = []
item_list (item t ts) = t ∷ item_list ts

-- the members as a list of names and trees
abbrev pub member_list : Members → List (List ℕ × Tree)
member_list no_members = []
member_list (member k t ms) = (k, t) ∷ member_list ms

-- the items of an array; nothing else has any
abbrev pub items : Tree → List Tree
items (array ts) = item_list ts
items _ = []

-- the members of an object; nothing else has any
abbrev pub members : Tree → List (List ℕ × Tree)
members (object ms) = member_list ms
members _ = []

-- the names of the members
abbrev pub names : Tree → List (List ℕ)
names t = keys_of (members t)

-- what stands at the names
abbrev pub values : Tree → List Tree
values t = values_of (members t)

-- the member of a name
abbrev pub get : List ℕ → Tree → Option Tree
get k t = lookup (bytes_eq k) (members t)

-- whether a member has the name
abbrev pub has_name : Tree → List ℕ → Bool
has_name t k = is_member bytes_eq (names t) k

-- ---- all levels

-- no float stands in it
abbrev mutual
  pub is_lawful : Tree → Bool
  is_lawful (number n) = is_exact n
  is_lawful (array ts) = items_lawful ts
  is_lawful (object ms) = members_lawful ms
  is_lawful _ = true

  -- no float stands in an item
  pub items_lawful : Items → Bool
  items_lawful no_items = true
  items_lawful (item t ts) = is_lawful t && items_lawful ts

  -- no float stands in a member
  pub members_lawful : Members → Bool
  members_lawful no_members = true
  members_lawful (member k t ms) = is_lawful t && members_lawful ms

-- no object has a name twice, at any level
abbrev mutual
  pub has_distinct_names : Tree → Bool
  has_distinct_names (array ts) = items_distinct ts
  has_distinct_names (object ms) = members_distinct ms
  has_distinct_names _ = true

  -- no object in an item has a name twice
  pub items_distinct : Items → Bool
  items_distinct no_items = true
  items_distinct (item t ts) = has_distinct_names t && items_distinct ts

  -- no object in a member has a name twice, and each name is none of the later ones
  pub members_distinct : Members → Bool
  members_distinct no_members = true
  members_distinct (member k t ms) = not (has_name (object ms) k) && has_distinct_names t && members_distinct ms
