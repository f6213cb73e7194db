-- What stands in a lawful tree is lawful.
use Rattle.std.proofs.Common.{◌≡◌, ℕ, List, true, ◌&&◌, Option, Some, None, option_map, IfSome, refl, sym, ap, subst}
use Rattle.std.proofs.Common.{◌∙◌}
use Rattle.std.proofs.lemmas.List.Folds.{list_all-map}
use Rattle.std.proofs.lemmas.List.Sums.{AllPass-from_list_all}
use Rattle.std.proofs.lemmas.Map.Entries.{All-lookup}
use Rattle.std.specs.List.{list_all}
use Rattle.std.specs.Map.{values_of}
use Rattle.std.specs.Str.{bytes_eq}
use Rattle.jskw_value.specs.Number.{Num, is_exact}
use Rattle.jskw_value.specs.Tree.{Tree, number, object, Members, no_members, member, member_list, members, values, get}
use Rattle.jskw_value.specs.Tree.{as_number, is_lawful, members_lawful}

-- the members as a list
pub members_lawful_list : (ms : Members) → members_lawful ms ≡ list_all is_lawful (values_of (member_list ms))
members_lawful_list no_members = refl
members_lawful_list (member k t ms) = ap (λ b. is_lawful t && b) (members_lawful_list ms)

-- the members of a lawful tree
pub lawful_members : (t : Tree) → is_lawful t ≡ true → list_all is_lawful (values t) ≡ true
lawful_members (object ms) h = sym (members_lawful_list ms) ∙ h
lawful_members _ h = refl

-- what may have been found is lawful
abbrev found_lawful : Option Tree → Type 0
found_lawful o = IfSome o (λ t. is_lawful t ≡ true)

-- by a name in a tree
in_tree : (k : List ℕ) (t : Tree) → is_lawful t ≡ true → found_lawful (get k t)
in_tree k t h = All-lookup (λ x. is_lawful x ≡ true) (bytes_eq k) (members t)
    (AllPass-from_list_all (λ m. is_lawful m.1) (members t)
    (sym (list_all-map is_lawful (λ m. m.1) (members t)) ∙ lawful_members t h))

-- of a node that stands for the tree
unmapped : {R : Type 0} (f : R → Tree) (r : Option R) → found_lawful (option_map f r)
    → IfSome r (λ x. is_lawful (f x) ≡ true)
unmapped f None h = tt
unmapped f (Some x) h = h

-- what is found by a name
pub lawful_found : {R : Type 0} (f : R → Tree) (r : Option R) (k : List ℕ) (t : Tree) → option_map f r ≡ get k t
    → is_lawful t ≡ true → IfSome r (λ x. is_lawful (f x) ≡ true)
lawful_found f r k t e h = unmapped f r (subst found_lawful (sym e) (in_tree k t h))

-- the number of a tree
pub lawful_number : {R : Type 0} (f : R → Num) (r : Option R) (t : Tree) → option_map f r ≡ as_number t
    → is_lawful t ≡ true → IfSome r (λ x. is_exact (f x) ≡ true)
lawful_number f None t e h = tt
lawful_number f (Some x) (number n) e h = let i : f x ≡ n = cc in rw i h
lawful_number f (Some x) _ e h = absurd (cc)
