-- What a walk over the members of an object has left.
use Rattle.std.specs.Prelude.{ℕ, List, map, drop, string_bytes}
use Rattle.std.specs.Borrow.{Bor}
use Rattle.std.specs.Slice.Iter.{iter_rest}
use Rattle.jskw_value.specs.Tree.{Tree, members}
use Rattle.jskw_value.specs.declared.walk.Walk.{Walk}
use Rattle.jskw_value.specs.declared.walk.Rest.{Rest}
use Rattle.jskw_value.specs.declared.walk.Rest.TheVariants.{Sorted, Listed, ByPlace}

-- what a walk's state has left of a map, of a list, or behind a place
abbrev pub rest_left : {V : Type 0} → (V → Tree) → Rest V → List (List ℕ × Tree)
rest_left tree (Sorted entries) = map (λ e. (string_bytes e.0, tree e.1)) entries
rest_left tree (Listed list) = map (λ m. (string_bytes m.name, tree m.value)) (iter_rest list)
rest_left tree (ByPlace object place) = drop place (members (tree object.now))

-- the names and members that are still to come, each member as `tree` sees it
abbrev pub left : {V : Type 0} → (V → Tree) → Walk V → List (List ℕ × Tree)
left tree walk = rest_left tree walk.rest

-- a name and a member that a walk gave
abbrev pub seen : {V : Type 0} → (V → Tree) → Bor (List ℕ) × Bor V → List ℕ × Tree
seen tree m = (m.0.now, tree m.1.now)
