-- The tree of decimals of a `serde_json` value, level by level.
use Rattle.std.proofs.Common.{◌≡◌, ℕ, List, [], ◌∷◌, map, Vec, BTreeMap, String, Global, string_bytes, string_cmp}
use Rattle.std.proofs.Common.{nat_cmp, true, refl, sym, ap, subst, ◌∙◌}
use Rattle.std.proofs.lemmas.Map.Made.{keys_of-map_values}
use Rattle.std.specs.BTreeMap as btree
use Rattle.std.specs.BTreeMap.{keys, IsOrdered}
use Rattle.std.specs.Cmp.Lexicographic.{slice_cmp}
use Rattle.std.specs.List.{AllByRecursion, list_all}
use Rattle.std.specs.List.Sorted.{IsStrictlySortedBy}
use Rattle.std.specs.Map.{keys_of}
use Rattle.std.specs.declared.cmp.Ordering.TheVariants.{Less}
use Rattle.serde_json.specs.View.{items_view, members_view}
use Rattle.serde_json.specs.declared.value.Value as serde
use Rattle.serde_json.specs.declared.value.Value.{Value}
use Rattle.serde_json.proofs.Views.{Entry}
use Rattle.jskw_value.specs.DecimalTree.{decimal_tree, member_tree, items_from, members_from}
use Rattle.jskw_value.specs.Members.{entries, member_names, AreSorted}
use Rattle.jskw_value.specs.Serde.{items_of, members_of, value_tree}
use Rattle.jskw_value.specs.Serde.{entry_tree as value_entry}
use Rattle.jskw_value.specs.Tree.{Tree, array, object, item, Members, no_members, member, is_lawful}
use Rattle.jskw_value.specs.declared.decimal_tree.DecimalTree.{DecimalTree, Array, Object}
use Rattle.jskw_value.specs.declared.members.Member.{Member}
use Rattle.jskw_value.proofs.DecimalTrees.{on_value}
use Rattle.jskw_value.proofs.DecimalTrees as decimals
use Rattle.jskw_value.proofs.SerdeTrees as values

-- the items of a value's array, by their trees
items_by_trees : (vs : List Value) → items_from (map value_tree vs) ≡ items_of (items_view vs)
items_by_trees [] = refl
items_by_trees (v ∷ vs) = ap (λ ts. item (value_tree v) ts) (items_by_trees vs)

-- an array of the same trees is the same
pub same_array : (v : Vec DecimalTree Global) (w : Vec Value Global) → map decimal_tree v.items ≡ map value_tree w.items
    → decimal_tree (Array v) ≡ value_tree (serde.Array w)
same_array v w e =
    decimals.tree_of_array v ∙ ap array (ap items_from e ∙ items_by_trees w.items) ∙ sym (values.tree_of_array w)

-- names and trees as members
abbrev of_entries : List (List ℕ × Tree) → Members
of_entries [] = no_members
of_entries (e ∷ es) = member e.0 e.1 (of_entries es)

members_by_entries : (ms : List (Member DecimalTree)) → members_from (map on_value ms) ≡ of_entries (map member_tree ms)
members_by_entries [] = refl
members_by_entries (m ∷ ms) = ap (member (string_bytes m.name) (decimal_tree m.value)) (members_by_entries ms)

values_by_entries : (es : List Entry) → members_of (members_view es) ≡ of_entries (map value_entry es)
values_by_entries [] = refl
values_by_entries (e ∷ es) = ap (member (string_bytes e.0) (value_tree e.1)) (values_by_entries es)

-- an object of the same names and trees is the same
pub same_object : (ms : List (Member DecimalTree)) (m : BTreeMap (String Global) Value)
    → map member_tree ms ≡ map value_entry m.entries
    → decimal_tree (Object ms) ≡ value_tree (serde.Object m)
same_object ms m e =
    decimals.tree_of_object ms ∙ ap object (members_by_entries ms ∙ ap of_entries e ∙ sym (values_by_entries m.entries))
    ∙ sym (values.tree_of_object m)

-- ---- names

-- what is below each of some keys is so by their bytes
below_bytes : (k : String Global) (ks : List (String Global)) → AllByRecursion (λ y. string_cmp k y ≡ Less) ks
    → AllByRecursion (λ y. slice_cmp nat_cmp (string_bytes k) y ≡ Less) (map string_bytes ks)
below_bytes k [] h = tt
below_bytes k (l ∷ ks) h = (h.0, below_bytes k ks h.1)

-- keys in order have bytes in order
sorted_bytes : (ks : List (String Global)) → IsStrictlySortedBy string_cmp ks → AreSorted (map string_bytes ks)
unfolding IsStrictlySortedBy
sorted_bytes [] h = tt
sorted_bytes (k ∷ ks) h = (below_bytes k ks h.0, sorted_bytes ks h.1)

-- the names of members that have the names and trees of a map rise
pub sorted_like : (ms : List (Member DecimalTree)) (m : BTreeMap (String Global) Value)
    → map member_tree ms ≡ map value_entry m.entries
    → IsOrdered string_cmp m → AreSorted (member_names ms)
sorted_like ms m e h =
    let alike : member_names ms ≡ map string_bytes (keys m) =
    sym (ap keys_of (decimals.entries_seen ms) ∙ keys_of-map_values decimal_tree (entries ms)) ∙ ap keys_of e
    ∙ values.keys_of_entries m.entries in
    subst AreSorted (sym alike) (sorted_bytes (keys m) h)

-- ---- what is below a lawful value

pub lawful_items : (x : Value) (v : Vec Value Global) → x ≡ serde.Array v → is_lawful (value_tree x) ≡ true
    → list_all (λ w. is_lawful (value_tree w)) v.items ≡ true
lawful_items x v e h = sym (values.lawful_of_array v) ∙ rw e at h

pub lawful_values : (x : Value) (m : BTreeMap (String Global) Value) → x ≡ serde.Object m
    → is_lawful (value_tree x) ≡ true
    → list_all (λ w. is_lawful (value_tree w)) (btree.values m) ≡ true
lawful_values x m e h = sym (values.lawful_of_object m) ∙ rw e at h

pub ruleset by_level = (same_array, same_object)
