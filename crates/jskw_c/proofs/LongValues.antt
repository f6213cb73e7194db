-- The text of an array is longer than the number of its items.
use Rattle.std.proofs.Common.{◌≡◌, ◌+◌, ◌<◌, ◌≤◌, ℕ, zero, suc, List, [], ◌∷◌, true, false, length, Some, sym, refl, ap}
use Rattle.std.proofs.Common.{unwrap_or, arith, length-append}
use Rattle.std.proofs.lemmas.Option.{none-some}
use Rattle.serde_json.specs.Data.{Data, Items, no_items, item, null, boolean, number, string, array, object}
use Rattle.serde_json.specs.Find.{as_array}
use Rattle.serde_json.specs.View.{items_view}
use Rattle.serde_json.specs.Written.{compact_text, items_text}
use Rattle.serde_json.specs.declared.value.Value.{Value}

abbrev count : Items → ℕ
count no_items = zero
count (item d ds) = suc (count ds)

count_of : (vs : List Value) → count (items_view vs) ≡ length vs
count_of [] = refl
count_of (v ∷ vs) = ap suc (count_of vs)

-- a comma before each, and the bracket
behind : (ds : Items) → count ds < length (items_text true ds)
behind no_items = omega arith
behind (item d ds) =
    let rest = behind ds in
    let joined : length (items_text true (item d ds)) ≡ suc (length (compact_text d) + length (items_text true ds)) =
    ap suc (length-append (compact_text d) (items_text true ds)) in omega arith

all : (ds : Items) → count ds ≤ length (items_text false ds)
all no_items = omega arith
all (item d ds) =
    let rest = behind ds in
    let joined : length (items_text false (item d ds)) ≡ length (compact_text d) + length (items_text true ds) =
    length-append (compact_text d) (items_text true ds) in omega arith

pub has_many : (d : Data) (vs : List Value) → Some (items_view vs) ≡ as_array d → 1024 < length vs
    → 1024 < length (compact_text d)
has_many null vs is many = absurd (none-some (items_view vs) (sym is))
has_many (boolean b) vs is many = absurd (none-some (items_view vs) (sym is))
has_many (number n) vs is many = absurd (none-some (items_view vs) (sym is))
has_many (string s) vs is many = absurd (none-some (items_view vs) (sym is))
has_many (object ms) vs is many = absurd (none-some (items_view vs) (sym is))
has_many (array ds) vs is many =
    let counted = count_of vs in
    let same : count (items_view vs) ≡ count ds = ap (λ o. count (unwrap_or o ds)) is in
    let every = all ds in
    let whole : length (compact_text (array ds)) ≡ suc (length (items_text false ds)) = refl in omega arith
