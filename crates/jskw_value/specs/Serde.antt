-- The tree of a `serde_json` value.
use Rattle.std.specs.Prelude.{ℕ, pos, zero, List, String, string_bytes}
use Rattle.std.specs.declared.alloc.Global.{Global}
use Rattle.serde_json.specs.Data as serde
use Rattle.serde_json.specs.View.{view, number_view}
use Rattle.serde_json.specs.declared.number.Number as numbers
use Rattle.serde_json.specs.declared.value.Value as values
use Rattle.jskw_value.specs.Number.{Num, exact, float}
use Rattle.jskw_value.specs.Tree.{Tree, null, boolean, number, string, array, object, Items, no_items, item, Members}
use Rattle.jskw_value.specs.Tree.{no_members, member}

-- an integer is written without a point, and of a float nothing is said
abbrev pub num_of : serde.Num → Num
num_of (serde.unsigned n) = exact (pos n) zero
num_of (serde.negative z) = exact z zero
num_of (serde.float x) = float

-- a value level by level; members stand in the order of their names
abbrev mutual
  pub tree_of : serde.Data → Tree
  tree_of serde.null = null
  tree_of (serde.boolean b) = boolean b
  tree_of (serde.number n) = number (num_of n)
  tree_of (serde.string s) = string s
  tree_of (serde.array ds) = array (items_of ds)
  tree_of (serde.object ms) = object (members_of ms)

  -- the items of an array
  pub items_of : serde.Items → Items
  items_of serde.no_items = no_items
  items_of (serde.item d ds) = item (tree_of d) (items_of ds)

  -- the members of an object
  pub members_of : serde.Members → Members
  members_of serde.no_members = no_members
  members_of (serde.member k d ms) = member k (tree_of d) (members_of ms)

-- the tree that a `Value` stands for
abbrev pub value_tree : values.Value → Tree
value_tree v = tree_of (view v)

-- the number that a `Number` stands for
abbrev pub number_num : numbers.Number → Num
number_num n = num_of (number_view n)

-- a member's name beside its tree
abbrev pub entry_tree : String Global × values.Value → List ℕ × Tree
entry_tree e = (string_bytes e.0, value_tree e.1)
