-- Items and members by their places.
use Rattle.std.proofs.Common.{◌≡◌, ℕ, zero, suc, ◌+◌, ◌<◌, List, [], ◌∷◌, length, get_or, drop, false, refl, add-one}
use Rattle.std.proofs.Common.{arith}
use Rattle.std.specs.Map.{keys_of, values_of}
use Rattle.std.proofs.lemmas.List.{drop_all}
use Rattle.jskw_value.specs.Tree.{Tree, array, object, items, members, names, values, is_array, is_object}

-- by the successor of a place
drop_suc : (ms : List (List ℕ × Tree)) (i : ℕ) (k : List ℕ) (t : Tree) → i < length ms → k ≡ get_or (keys_of ms) i k
    → t ≡ get_or (values_of ms) i t → drop i ms ≡ (k, t) ∷ drop (suc i) ms
drop_suc [] i k t h e f = absurd (omega arith)
drop_suc (m ∷ ms) zero k t h e f = rw (e, f) refl
drop_suc (m ∷ ms) (suc i) k t h e f = drop_suc ms i k t (omega arith) e f

-- the rest from a place on is the member there and the rest behind it
pub drop_member : (u : Tree) (i : ℕ) (k : List ℕ) (t : Tree) → i < length (members u) → k ≡ get_or (names u) i k
    → t ≡ get_or (values u) i t → drop i (members u) ≡ (k, t) ∷ drop (i + 1) (members u)
drop_member u i k t h e f = rw add-one (drop_suc (members u) i k t h e f)

-- what is no object has no rest
pub drop_elsewhere : (u : Tree) (i : ℕ) → is_object u ≡ false → drop i (members u) ≡ []
drop_elsewhere (object ms) i h = cc
drop_elsewhere _ i h = drop_all i [] (omega arith)

-- what is no array has no items
pub items_elsewhere : (u : Tree) → is_array u ≡ false → items u ≡ []
items_elsewhere (array ts) h = cc
items_elsewhere _ h = refl
