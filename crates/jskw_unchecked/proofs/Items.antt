-- The schemas of an array, one after another.
use Rattle.std.proofs.Common.{◌≡◌, ℕ, zero, suc, ◌+◌, ◌<◌, ◌≤◌, List, [], ◌∷◌, ◌++◌, length, get_or, drop, sym, ap, ◌∙◌}
use Rattle.std.proofs.Common.{append_assoc, arith}
use Rattle.serde_json.specs.Data.{depth, items_depth}
use Rattle.serde_json.specs.View.{view, items_view}
use Rattle.serde_json.specs.declared.value.Value.{Value}
use Rattle.jskw_value.specs.Pointer.{Pointer, item_location}
use Rattle.jskw_report.proofs.GatheredNodes.{drop_here}
use Rattle.jskw_report.specs.Setting.{Setting}
use Rattle.jskw_unchecked.specs.Unchecked.{unchecked, unchecked_each}
use Rattle.jskw_unchecked.specs.declared.member.UncheckedMember.{UncheckedMember}

-- no item nests deeper than the deepest
pub item_depth : (vs : List Value) (i : ℕ) (v : Value) → i < length vs → v ≡ get_or vs i v
    → depth (view v) ≤ items_depth (items_view vs)
item_depth [] i v within is = absurd (omega arith)
item_depth (x ∷ vs) zero v within is = let same = ap (λ y. depth (view y)) is in omega arith
item_depth (x ∷ vs) (suc i) v within is = let below = item_depth vs i v (omega arith) is in omega arith

-- the list at the index i, and one schema later
pub next_schema : (done made all : List UncheckedMember) (s : Setting) (p : Pointer) (vs : List Value)
    (i : ℕ) (v : Value)
    → i < length vs → v ≡ get_or vs i v → made ≡ done ++ unchecked (view v) s (item_location p i)
    → done ++ unchecked_each (items_view (drop i vs)) s p i ≡ all
    → made ++ unchecked_each (items_view (drop (i + 1) vs)) s p (i + 1) ≡ all
next_schema done made all s p vs i v within is more known =
    let rest = λ (j : ℕ). unchecked_each (items_view (drop (i + 1) vs)) s p j in
    ap (λ ms. ms ++ rest (i + 1)) more ∙ append_assoc done _ _
    ∙ ap (λ j. done ++ (unchecked (view v) s (item_location p i) ++ rest j)) (omega arith)
    ∙ ap (λ xs. done ++ unchecked_each (items_view xs) s p i) (sym (drop_here vs i v within is)) ∙ known
