-- A `DecimalTree` beside its tree.
use Rattle.std.proofs.Common.{◌≡◌, ℕ, List, [], ◌∷◌, map, Vec, Global, string_bytes, length, refl, sym, ap, subst, ◌∙◌}
use Rattle.std.proofs.Common.{option_map, Option, true, Bor, rules}
use Rattle.std.proofs.lemmas.Grind.{common_steps}
use Rattle.std.proofs.lemmas.Map.Entries.{length-values_of}
use Rattle.std.proofs.lemmas.Map.Made.{lookup-map_values, keys_of-map_values}
use Rattle.std.proofs.lemmas.List.{length-map}
use Rattle.std.proofs.lemmas.Simd.{map-map}
use Rattle.std.specs.Map.{keys_of, values_of, lookup}
use Rattle.std.specs.Str.{bytes_eq}
use Rattle.jskw_value.specs.declared.decimal_tree.DecimalTree.{DecimalTree, Array, Object, the_lemmas}
use Rattle.jskw_value.specs.declared.decimal_tree.DecimalTree.TheOpen.{DecimalTree-F}
use Rattle.jskw_value.specs.declared.decimal_tree.DecimalTree.TheFolds.{map-DecimalTree, ind-DecimalTree}
use Rattle.jskw_value.specs.declared.decimal_tree.DecimalTree.TheFolds.{fold-roll-DecimalTree}
use Rattle.jskw_value.specs.declared.members.Member.{Member}
use Rattle.jskw_value.specs.DecimalTree.{decimal_tree, member_tree, tree_step, items_from, members_from}
use Rattle.jskw_value.specs.Members.{entries, member_names, value_named}
use Rattle.jskw_value.specs.Tree as tree
use Rattle.jskw_value.specs.Tree.{Tree, array, object, item_list, member_list}
use Rattle.jskw_value.proofs.Lawful.{lawful_found, lawful_members}
use Rattle.jskw_value.proofs.Lookups.{seen_through}

-- a member with its tree
abbrev pub on_value : Member DecimalTree → Member Tree
on_value m = record { name = m.name; value = decimal_tree m.value }

-- an array's tree
pub tree_of_array : (v : Vec DecimalTree Global)
    → decimal_tree (Array v) ≡ array (items_from (map decimal_tree v.items))
tree_of_array v = search (rules, the_lemmas)

-- an object's tree
pub tree_of_object : (ms : List (Member DecimalTree))
    → decimal_tree (Object ms) ≡ object (members_from (map on_value ms))
tree_of_object ms = search (rules, the_lemmas)

-- the items made from a list are the list
item_list-items_from : (ts : List Tree) → item_list (items_from ts) ≡ ts
item_list-items_from [] = refl
item_list-items_from (t ∷ ts) = ap (λ us. t ∷ us) (item_list-items_from ts)

-- the members made from a list are its names and trees
member_list-members_from : (ms : List (Member DecimalTree))
    → member_list (members_from (map on_value ms)) ≡ map member_tree ms
member_list-members_from [] = refl
member_list-members_from (m ∷ ms) = ap (λ es. member_tree m ∷ es) (member_list-members_from ms)

-- names and trees by way of the entries
pub entries_seen : (ms : List (Member DecimalTree))
    → map member_tree ms ≡ map (λ e. (e.0, decimal_tree e.1)) (entries ms)
entries_seen ms = sym (map-map (λ e. (e.0, decimal_tree e.1)) (λ m. (string_bytes m.name, m.value)) ms)

-- the trees of the values
values_seen : (ms : List (Member DecimalTree))
    → values_of (map member_tree ms) ≡ map decimal_tree (values_of (entries ms))
values_seen ms =
    ap values_of (entries_seen ms) ∙ map-map (λ e. e.1) (λ e. (e.0, decimal_tree e.1)) (entries ms)
    ∙ sym (map-map decimal_tree (λ e. e.1) (entries ms))

-- an array's items
pub items_of_array : (v : Vec DecimalTree Global) → tree.items (decimal_tree (Array v)) ≡ map decimal_tree v.items
items_of_array v = ap tree.items (tree_of_array v) ∙ item_list-items_from (map decimal_tree v.items)

-- an object's members
pub members_of_object : (ms : List (Member DecimalTree)) → tree.members (decimal_tree (Object ms)) ≡ map member_tree ms
members_of_object ms = ap tree.members (tree_of_object ms) ∙ member_list-members_from ms

-- an object's names
pub names_of_object : (ms : List (Member DecimalTree)) → tree.names (decimal_tree (Object ms)) ≡ member_names ms
names_of_object ms = ap keys_of (members_of_object ms ∙ entries_seen ms) ∙ keys_of-map_values decimal_tree (entries ms)

-- an object's values
pub values_of_object : (ms : List (Member DecimalTree))
    → tree.values (decimal_tree (Object ms)) ≡ map decimal_tree (values_of (entries ms))
values_of_object ms = ap values_of (members_of_object ms) ∙ values_seen ms

-- as many values as members
pub length_values : {V : Type 0} (ms : List (Member V)) → length (values_of (entries ms)) ≡ length ms
length_values ms = length-values_of (entries ms) ∙ length-map ms _

-- what `value_named` finds
pub found_of_object : (k : List ℕ) (ms : List (Member DecimalTree)) (r : Option (Bor DecimalTree))
    → option_map (λ x. x.now) r ≡ value_named k ms
    → option_map (λ x. decimal_tree x.now) r ≡ tree.get k (decimal_tree (Object ms))
found_of_object k ms r e = seen_through decimal_tree r ∙ ap (option_map decimal_tree) e
    ∙ sym (ap (lookup (bytes_eq k)) (members_of_object ms ∙ entries_seen ms)
    ∙ lookup-map_values decimal_tree (bytes_eq k) (entries ms))

-- ---- a tree of decimals holds no float

-- the tree holds no float
abbrev IsLawful : DecimalTree → Type 0
IsLawful d = tree.is_lawful (decimal_tree d) ≡ true

-- a `DecimalTree` with a proof of that
abbrev Such : Type 0
Such = (d : DecimalTree) × IsLawful d

-- a member without the proof
abbrev first_of : Member Such → Member DecimalTree
first_of m = record { name = m.name; value = m.value.0 }

-- an array of such is lawful
lawful_items : (ds : List Such) → tree.items_lawful (items_from (map decimal_tree (map (λ e. e.0) ds))) ≡ true
lawful_items [] = refl
lawful_items (d ∷ ds) = rw (d.1, lawful_items ds) refl

-- an object of such is lawful
lawful_values : (ms : List (Member Such)) → tree.members_lawful (members_from (map on_value (map first_of ms))) ≡ true
lawful_values [] = refl
lawful_values (m ∷ ms) = rw (m.value.1, lawful_values ms) refl

-- one level over such is lawful
lawful_layer : (y : DecimalTree-F Such)
    → tree.is_lawful (tree_step (map-DecimalTree _ _ decimal_tree (map-DecimalTree _ _ (λ e. e.0) y))) ≡ true
lawful_layer DecimalTree-F.Null = refl
lawful_layer (DecimalTree-F.Bool b) = refl
lawful_layer (DecimalTree-F.Number d) = refl
lawful_layer (DecimalTree-F.Text s) = refl
lawful_layer (DecimalTree-F.Array v) = lawful_items v.items
lawful_layer (DecimalTree-F.Object ms) = lawful_values ms

-- every `DecimalTree` is lawful, by induction
pub lawful_tree : (d : DecimalTree) → tree.is_lawful (decimal_tree d) ≡ true
lawful_tree = ind-DecimalTree IsLawful (λ x y is.
    ap tree.is_lawful (fold-roll-DecimalTree Tree tree_step x)
    ∙ subst (λ z. tree.is_lawful (tree_step (map-DecimalTree _ _ decimal_tree z)) ≡ true) is (lawful_layer y))

-- what the arrays and objects of a `DecimalTree` are as nodes
pub ruleset arrays = (items_of_array, lawful_tree, common_steps)

pub ruleset objects = (
  length_values,
  names_of_object,
  values_of_object,
  members_of_object,
  lawful_tree,
  lawful_members,
  lawful_found,
  common_steps,
)
