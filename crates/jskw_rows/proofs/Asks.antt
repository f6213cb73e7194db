-- A node that counts how often it is asked, beside its tree.
use Rattle.std.proofs.Common.{◌≡◌, List, [], ◌∷◌, map, Vec, Global, refl, ap, sym, subst, ◌∙◌, true, false, rules}
use Rattle.std.proofs.lemmas.Grind.{common_steps}
use Rattle.jskw_rows.specs.declared.asked.Asked.{Asked, Array, the_lemmas}
use Rattle.jskw_rows.specs.declared.asked.Asked.TheOpen.{Asked-F}
use Rattle.jskw_rows.specs.declared.asked.Asked.TheFolds.{map-Asked, ind-Asked, fold-roll-Asked}
use Rattle.jskw_rows.specs.Asks.{asked_tree, asked_step}
use Rattle.jskw_value.specs.DecimalTree.{items_from}
use Rattle.jskw_value.specs.Tree as tree
use Rattle.jskw_value.specs.Tree.{Tree, array, item_list}

-- the items made from a list are the list
item_list-items_from : (ts : List Tree) → item_list (items_from ts) ≡ ts
item_list-items_from [] = refl
item_list-items_from (t ∷ ts) = ap (λ us. t ∷ us) (item_list-items_from ts)

-- an array's tree
pub tree_of_array : (c : _) (v : Vec Asked Global)
    → asked_tree (Array c v) ≡ array (items_from (map asked_tree v.items))
tree_of_array c v = search (rules, the_lemmas)

-- an array's items
pub items_of_array : (c : _) (v : Vec Asked Global) → tree.items (asked_tree (Array c v)) ≡ map asked_tree v.items
items_of_array c v = ap tree.items (tree_of_array c v) ∙ item_list-items_from (map asked_tree v.items)

-- the tree has no float, and is no object
abbrev Is : Tree → Type 0
Is t = (tree.is_lawful t ≡ true) × (tree.is_object t ≡ false)

abbrev Such : Type 0
Such = (d : Asked) × Is (asked_tree d)

-- an array of such is lawful
lawful_items : (ds : List Such) → tree.items_lawful (items_from (map asked_tree (map (λ e. e.0) ds))) ≡ true
lawful_items [] = refl
lawful_items (d ∷ ds) = rw (d.1.0, lawful_items ds) refl

layer : (y : Asked-F Such) → Is (asked_step (map-Asked _ _ asked_tree (map-Asked _ _ (λ e. e.0) y)))
layer (Asked-F.Null c) = (refl, refl)
layer (Asked-F.Array c v) = (lawful_items v.items, refl)

-- every node is such, by induction
is_such : (d : Asked) → Is (asked_tree d)
is_such = ind-Asked (λ d. Is (asked_tree d)) (λ x y is. subst Is (sym (fold-roll-Asked Tree asked_step x))
    (subst (λ z. Is (asked_step (map-Asked _ _ asked_tree z))) is (layer y)))

pub lawful_tree : (d : Asked) → tree.is_lawful (asked_tree d) ≡ true
lawful_tree d = (is_such d).0

pub no_object : (d : Asked) → tree.is_object (asked_tree d) ≡ false
no_object d = (is_such d).1

pub ruleset arrays = (items_of_array, lawful_tree, common_steps)

pub ruleset nodes = (lawful_tree, no_object, common_steps)
