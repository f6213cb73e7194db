-- How deep a tree nests: what recursion over a node goes down on.
use Rattle.std.proofs.Common.{◌≡◌, ℕ, zero, suc, ◌<◌, ◌≤◌, List, [], ◌∷◌, length, get_or, max, true, refl, ap, arith}
use Rattle.jskw_value.specs.Tree.{Tree, array, object, Items, no_items, item, Members, no_members, member, item_list}
use Rattle.jskw_value.specs.Tree.{member_list, items, members, is_object}

abbrev mutual
  pub depth : Tree → ℕ
  depth (array ts) = suc (items_depth ts)
  depth (object ms) = suc (members_depth ms)
  depth _ = 0

  -- the greatest among the items
  pub items_depth : Items → ℕ
  items_depth no_items = 0
  items_depth (item t ts) = max (depth t) (items_depth ts)

  -- the greatest among the members
  pub members_depth : Members → ℕ
  members_depth no_members = 0
  members_depth (member k t ms) = max (depth t) (members_depth ms)

-- how deep the deepest of some members nests
abbrev pub height : List (List ℕ × Tree) → ℕ
height [] = 0
height (m ∷ ms) = max (depth m.1) (height ms)

-- no item nests deeper than the deepest
items_depth_above : (ts : Items) (i : ℕ) (t : Tree) → i < length (item_list ts) → t ≡ get_or (item_list ts) i t
    → depth t ≤ items_depth ts
items_depth_above no_items i t h e = absurd (omega arith)
items_depth_above (item x ts) zero t h e = rw e (omega arith)
items_depth_above (item x ts) (suc i) t h e = let r = items_depth_above ts i t (omega arith) e in omega arith

-- an item nests less deep than its array
pub item_depth : (u : Tree) (i : ℕ) (t : Tree) → i < length (items u) → t ≡ get_or (items u) i t → depth t < depth u
item_depth (array ts) i t h e = let r = items_depth_above ts i t h e in omega arith
item_depth _ i t h e = absurd (omega arith)

-- the greatest depth among the members, as a list
members_depth_list : (ms : Members) → members_depth ms ≡ height (member_list ms)
members_depth_list no_members = refl
members_depth_list (member k t ms) = ap (max (depth t)) (members_depth_list ms)

-- the members nest less deep than their object
pub height_below : (t : Tree) → is_object t ≡ true → height (members t) < depth t
height_below (object ms) h = let e = members_depth_list ms in omega arith
height_below _ h = cc

pub ruleset below = (item_depth, height_below)
