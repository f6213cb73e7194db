-- A `serde_json` value beside its tree.
use Rattle.std.proofs.Common.{◌≡◌, ℕ, ◌<◌, length, get_or, List, [], ◌∷◌, map, Vec, BTreeMap, String, Global}
use Rattle.std.proofs.Common.{string_bytes, refl, sym, ap, ◌∙◌, option_map, Option, Some, true, false, cond, ◌&&◌, Bor}
use Rattle.std.proofs.Common.{string_cmp, nat_cmp}
use Rattle.std.proofs.lemmas.Grind.{common_steps}
use Rattle.std.proofs.lemmas.List.Folds.{list_all-map}
use Rattle.std.proofs.lemmas.Simd.{map-map}
use Rattle.std.proofs.lemmas.Map.Keys.{IsDistinct-from_sorted}
use Rattle.std.proofs.lemmas.Map.Made.{lookup-map_values}
use Rattle.std.proofs.lemmas.Map.Text.{is_eq-slice_cmp}
use Rattle.std.specs.Cmp.Lexicographic.{slice_cmp}
use Rattle.std.specs.List.{AllByRecursion, IsDistinct, list_all}
use Rattle.std.specs.Ordering.{eq_by_cmp}
use Rattle.std.specs.Str.{bytes_eq}
use Rattle.std.specs.BTreeMap.{keys, values, get_by, is_at, IsOrdered}
use Rattle.std.specs.Map.{keys_of, values_of, lookup}
use Rattle.serde_json.specs.View.{items_view, members_view}
use Rattle.serde_json.specs.declared.value.Value.{Value, Array, Object}
use Rattle.serde_json.proofs.Views.{Entry, view-Array, view-Object}
use Rattle.jskw_value.specs.Serde.{entry_tree, tree_of, items_of, members_of, value_tree}
use Rattle.jskw_value.specs.Tree as tree
use Rattle.jskw_value.specs.Tree.{Tree, array, object, Items, no_items, item, Members, no_members, member, item_list}
use Rattle.jskw_value.specs.Tree.{member_list, is_lawful, items_lawful}
use Rattle.jskw_value.proofs.Lawful.{lawful_found, lawful_members, members_lawful_list}
use Rattle.jskw_value.proofs.Lists.{all_at}
use Rattle.jskw_value.proofs.Lookups.{seen_through}

-- the items of an array
item_list-items_of : (vs : List Value) → item_list (items_of (items_view vs)) ≡ map value_tree vs
item_list-items_of [] = refl
item_list-items_of (v ∷ vs) = ap (λ ts. value_tree v ∷ ts) (item_list-items_of vs)

-- the members of an object
member_list-members_of : (es : List Entry) → member_list (members_of (members_view es)) ≡ map entry_tree es
member_list-members_of [] = refl
member_list-members_of (e ∷ es) = ap (λ ms. entry_tree e ∷ ms) (member_list-members_of es)

-- the names of an object's members
pub keys_of_entries : (es : List Entry) → keys_of (map entry_tree es) ≡ map string_bytes (keys_of es)
keys_of_entries es = map-map (λ m. m.0) entry_tree es ∙ sym (map-map string_bytes (λ e. e.0) es)

-- the values of an object's members
values_of_entries : (es : List Entry) → values_of (map entry_tree es) ≡ map value_tree (values_of es)
values_of_entries es = map-map (λ m. m.1) entry_tree es ∙ sym (map-map value_tree (λ e. e.1) es)

-- an array's tree
pub tree_of_array : (v : Vec Value Global) → value_tree (Array v) ≡ array (items_of (items_view v.items))
tree_of_array v = ap tree_of (view-Array v)

-- an object's tree
pub tree_of_object : (m : BTreeMap (String Global) Value)
    → value_tree (Object m) ≡ object (members_of (members_view m.entries))
tree_of_object m = ap tree_of (view-Object m)

-- an array's items
pub items_of_array : (v : Vec Value Global) → tree.items (value_tree (Array v)) ≡ map value_tree v.items
items_of_array v = ap tree.items (tree_of_array v) ∙ item_list-items_of v.items

-- an object's members
pub members_of_object : (m : BTreeMap (String Global) Value)
    → tree.members (value_tree (Object m)) ≡ map entry_tree m.entries
members_of_object m = ap tree.members (tree_of_object m) ∙ member_list-members_of m.entries

-- an object's names
pub names_of_object : (m : BTreeMap (String Global) Value)
    → tree.names (value_tree (Object m)) ≡ map string_bytes (keys m)
names_of_object m = ap keys_of (members_of_object m) ∙ keys_of_entries m.entries

-- an object's values
pub values_of_object : (m : BTreeMap (String Global) Value)
    → tree.values (value_tree (Object m)) ≡ map value_tree (values m)
values_of_object m = ap values_of (members_of_object m) ∙ values_of_entries m.entries

-- keys that differ by order differ by their bytes
apart_from : (k : String Global) (ks : List (String Global)) → AllByRecursion (λ y. eq_by_cmp string_cmp k y ≡ false) ks
    → AllByRecursion (λ y. bytes_eq (string_bytes k) y ≡ false) (map string_bytes ks)
apart_from k [] h = tt
apart_from k (l ∷ ks) h = (sym (is_eq-slice_cmp (string_bytes k) (string_bytes l)) ∙ h.0, apart_from k ks h.1)

-- distinct keys have distinct bytes
distinct_bytes : (ks : List (String Global)) → IsDistinct (eq_by_cmp string_cmp) ks
    → IsDistinct bytes_eq (map string_bytes ks)
unfolding IsDistinct
distinct_bytes [] h = tt
distinct_bytes (k ∷ ks) h = (apart_from k ks h.0, distinct_bytes ks h.1)

-- an object's names are distinct, since its keys are in order
pub distinct_of_object : (m : BTreeMap (String Global) Value) → IsOrdered string_cmp m
    → IsDistinct bytes_eq (tree.names (value_tree (Object m)))
distinct_of_object m h = rw (names_of_object m) (distinct_bytes (keys m) (IsDistinct-from_sorted string_cmp (keys m) h))

-- an entry with its key's bytes
abbrev named : Entry → List ℕ × Value
named e = (string_bytes e.0, e.1)

-- the keys of a map are compared by their bytes
same_test : (k : List ℕ) (es : List Entry)
    → lookup (is_at (λ q. slice_cmp nat_cmp k (string_bytes q))) es ≡ lookup (bytes_eq k) (map named es)
same_test k [] = refl
same_test k (e ∷ es) =
    ap (λ b. cond b (Some e.1) (lookup (is_at (λ q. slice_cmp nat_cmp k (string_bytes q))) es))
    (is_eq-slice_cmp k (string_bytes e.0))
    ∙ ap (cond (bytes_eq k (string_bytes e.0)) (Some e.1)) (same_test k es)

-- an entry's tree by way of its name
entries_seen : (es : List Entry) → map entry_tree es ≡ map (λ e. (e.0, value_tree e.1)) (map named es)
entries_seen es = sym (map-map (λ m. (m.0, value_tree m.1)) named es)

-- what `get` finds
pub found_of_object : (k : List ℕ) (m : BTreeMap (String Global) Value) (r : Option (Bor Value))
    → option_map (λ x. x.now) r ≡ get_by (λ q. slice_cmp nat_cmp k (string_bytes q)) m
    → option_map (λ x. value_tree x.now) r ≡ tree.get k (value_tree (Object m))
found_of_object k m r e = seen_through value_tree r ∙ ap (option_map value_tree) (e ∙ same_test k m.entries)
    ∙ sym (ap (lookup (bytes_eq k)) (members_of_object m ∙ entries_seen m.entries)
    ∙ lookup-map_values value_tree (bytes_eq k) (map named m.entries))

-- the items as a list
items_lawful_list : (ts : Items) → items_lawful ts ≡ list_all is_lawful (item_list ts)
items_lawful_list no_items = refl
items_lawful_list (item t ts) = ap (λ b. is_lawful t && b) (items_lawful_list ts)

-- an array is lawful where each item is
pub lawful_of_array : (v : Vec Value Global)
    → is_lawful (value_tree (Array v)) ≡ list_all (λ w. is_lawful (value_tree w)) v.items
lawful_of_array v =
    ap is_lawful (tree_of_array v) ∙ items_lawful_list (items_of (items_view v.items))
    ∙ ap (list_all is_lawful) (item_list-items_of v.items) ∙ list_all-map is_lawful value_tree v.items

-- an object is lawful where each member is
pub lawful_of_object : (m : BTreeMap (String Global) Value)
    → is_lawful (value_tree (Object m)) ≡ list_all (λ w. is_lawful (value_tree w)) (values m)
lawful_of_object m =
    ap is_lawful (tree_of_object m) ∙ members_lawful_list (members_of (members_view m.entries))
    ∙ ap (λ ms. list_all is_lawful (values_of ms)) (member_list-members_of m.entries)
    ∙ ap (list_all is_lawful) (values_of_entries m.entries) ∙ list_all-map is_lawful value_tree (values m)

-- an item of a lawful array
pub lawful_in_array : (v : Vec Value Global) (i : ℕ) (w : Value) → is_lawful (value_tree (Array v)) ≡ true
    → i < length v.items → w ≡ get_or v.items i w → is_lawful (value_tree w) ≡ true
lawful_in_array v i w h k e = all_at (λ x. is_lawful (value_tree x)) v.items i w (sym (lawful_of_array v) ∙ h) k e

-- a member of a lawful object
pub lawful_in_object : (m : BTreeMap (String Global) Value) (i : ℕ) (w : Value)
    → is_lawful (value_tree (Object m)) ≡ true → i < length (values m) → w ≡ get_or (values m) i w
    → is_lawful (value_tree w) ≡ true
lawful_in_object m i w h k e = all_at (λ x. is_lawful (value_tree x)) (values m) i w (sym (lawful_of_object m) ∙ h) k e

-- what `serde_json`'s arrays and objects are as nodes
pub ruleset arrays = (items_of_array, lawful_in_array, common_steps)

pub ruleset lawful_by_level = (lawful_of_array, lawful_of_object)

pub ruleset objects = (
  distinct_of_object,
  names_of_object,
  values_of_object,
  members_of_object,
  lawful_in_object,
  lawful_members,
  lawful_found,
  common_steps,
)
