-- The tree of a `DecimalTree`.
use Rattle.std.specs.Prelude.{ℕ, List, [], ◌∷◌, string_bytes}
use Rattle.jskw_value.specs.Decimal.{value}
use Rattle.jskw_value.specs.Tree.{Tree, null, boolean, number, string, array, object, Items, no_items, item, Members}
use Rattle.jskw_value.specs.Tree.{no_members, member}
use Rattle.jskw_value.specs.declared.decimal_tree.DecimalTree.{DecimalTree, fold-DecimalTree}
use Rattle.jskw_value.specs.declared.decimal_tree.DecimalTree.TheOpen.{DecimalTree-F}
use Rattle.jskw_value.specs.declared.members.Member.{Member}

-- a list of trees as the items of an array
abbrev pub items_from : List Tree → Items
items_from [] = no_items
items_from (t ∷ ts) = item t (items_from ts)

-- a list of members as the members of an object
abbrev pub members_from : List (Member Tree) → Members
members_from [] = no_members
members_from (m ∷ ms) = member (string_bytes m.name) m.value (members_from ms)

-- one level, with each tree inside already seen
abbrev pub tree_step : DecimalTree-F Tree → Tree
tree_step DecimalTree-F.Null = null
tree_step (DecimalTree-F.Bool b) = boolean b
tree_step (DecimalTree-F.Number d) = number (value d)
tree_step (DecimalTree-F.Text s) = string (string_bytes s)
tree_step (DecimalTree-F.Array v) = array (items_from v.items)
tree_step (DecimalTree-F.Object ms) = object (members_from ms)

-- the tree that a `DecimalTree` stands for
abbrev pub decimal_tree : DecimalTree → Tree
decimal_tree = fold-DecimalTree Tree tree_step

-- a member's name beside its tree
abbrev pub member_tree : Member DecimalTree → List ℕ × Tree
member_tree m = (string_bytes m.name, decimal_tree m.value)
