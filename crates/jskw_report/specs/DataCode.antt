-- The code by which a proof tells the values of `serde_json` apart: each is the tree of what it has.
use Rattle.std.specs.Prelude.{ℕ, ℤ, ◌≡◌, refl, List, [], Bool, true, false, Float, ◌⊎◌}
use Rattle.std.specs.Coded.{Coded, code_by, coded_ℕ, coded_ℤ, coded_bool, coded_list, coded⊎}
use base.Stored.{coded_float}
use mathlib.Core.Path.{ap}
use mathlib.Core.Logic.{inl, inr}
use Rattle.serde_json.specs.Data.{unsigned, negative, float, Data, null, boolean, number, string, array, object, Items}
use Rattle.serde_json.specs.Data.{no_items, item, Members, no_members, member}
use Rattle.jskw_report.specs.LabelTree.{LabelTree, leaf, fork, label_tree_code}

-- what stands at a fork: a boolean, whether it is an object, a text, or a number
abbrev DataLabel : Type 0
DataLabel = (Bool ⊎ (Bool ⊎ List ℕ)) ⊎ (ℕ ⊎ (ℤ ⊎ Float))

abbrev mutual
  -- the tree of the value
  data_tree : Data → LabelTree DataLabel
  data_tree null = leaf
  data_tree (boolean b) = fork (inl (inl b)) leaf leaf
  data_tree (array ds) = fork (inl (inr (inl false))) (items_tree ds) leaf
  data_tree (object ms) = fork (inl (inr (inl true))) (members_tree ms) leaf
  data_tree (string s) = fork (inl (inr (inr s))) leaf leaf
  data_tree (number (unsigned n)) = fork (inr (inl n)) leaf leaf
  data_tree (number (negative z)) = fork (inr (inr (inl z))) leaf leaf
  data_tree (number (float x)) = fork (inr (inr (inr x))) leaf leaf

  -- the tree of the items, under empty names
  items_tree : Items → LabelTree DataLabel
  items_tree no_items = leaf
  items_tree (item d ds) = fork (inl (inr (inr []))) (data_tree d) (items_tree ds)

  -- the tree of the members, under their names
  members_tree : Members → LabelTree DataLabel
  members_tree no_members = leaf
  members_tree (member k d ms) = fork (inl (inr (inr k))) (data_tree d) (members_tree ms)

abbrev mutual
  -- the value of the tree
  data_of : LabelTree DataLabel → Data
  data_of leaf = null
  data_of (fork (inl (inl b)) t u) = boolean b
  data_of (fork (inl (inr (inl false))) t u) = array (items_of t)
  data_of (fork (inl (inr (inl true))) t u) = object (members_of t)
  data_of (fork (inl (inr (inr s))) t u) = string s
  data_of (fork (inr (inl n)) t u) = number (unsigned n)
  data_of (fork (inr (inr (inl z))) t u) = number (negative z)
  data_of (fork (inr (inr (inr x))) t u) = number (float x)

  -- the items of the tree
  items_of : LabelTree DataLabel → Items
  items_of leaf = no_items
  items_of (fork l t u) = item (data_of t) (items_of u)

  -- the members of the tree
  members_of : LabelTree DataLabel → Members
  members_of (fork (inl (inr (inr k))) t u) = member k (data_of t) (members_of u)
  members_of _ = no_members

-- each is the one of its tree
mutual
  pub data_back : (d : Data) → data_of (data_tree d) ≡ d
  data_back (array ds) = ap array (items_back ds)
  data_back (object ms) = ap object (members_back ms)
  data_back (number (float x)) = refl
  data_back _ = refl

  pub items_back : (ds : Items) → items_of (items_tree ds) ≡ ds
  items_back no_items = refl
  items_back (item d ds) = λ i. item (data_back d i) (items_back ds i)

  members_back : (ms : Members) → members_of (members_tree ms) ≡ ms
  members_back no_members = refl
  members_back (member k d ms) = λ i. member k (data_back d i) (members_back ms i)

-- the code of a tree
abbrev tree_code : Coded (LabelTree DataLabel)
tree_code =
    label_tree_code (coded⊎
    (coded⊎ coded_bool (coded⊎ coded_bool (coded_list coded_ℕ))) (coded⊎ coded_ℕ (coded⊎ coded_ℤ coded_float)))

-- the code of a value
abbrev pub data_code : Coded Data
data_code = code_by (LabelTree DataLabel) tree_code data_tree data_of data_back

-- the code of items
abbrev pub items_code : Coded Items
items_code = code_by (LabelTree DataLabel) tree_code items_tree items_of items_back
