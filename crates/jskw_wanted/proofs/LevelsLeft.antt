-- The levels so far, and those that are enough for the schemas below them.
use Rattle.std.proofs.Common.{◌≡◌, List, [], ◌∷◌, ◌++◌, true, false, append-nil, append_assoc, refl, sym, subst}
use Rattle.std.proofs.Common.{◌∙◌, length, ◌==◌}
use Rattle.std.proofs.Math.Dec.{eqb-suc-zero}
use Rattle.std.proofs.lemmas.Bool.{true≢false}
use Rattle.std.specs.Borrow.{Bor}
use Rattle.serde_json.specs.View.{view}
use Rattle.serde_json.specs.declared.value.Value.{Value}
use Rattle.jskw_text.specs.declared.wanted.Level.{Level}
use Rattle.jskw_text.specs.declared.wanted.Level.TheVariants.{Whole, Part}
use Rattle.jskw_wanted.specs.Asked.{AreEnough, AsksAll, schemas_seen}
use Rattle.jskw_wanted.specs.Enough.{IsEnough}
use Rattle.jskw_wanted.specs.declared.asked.Asked.{Asked}
use Rattle.jskw_wanted.proofs.Read.{level_enough, whole_for_all}

-- levels that are enough for the schemas here are enough for the root, behind those so far
abbrev pub IsLeft : Value → List Level → List (Bor Value) → Type 0
IsLeft root levels here =
    (ls : List Level) → AreEnough (schemas_seen here) ls → IsEnough (view root) (levels ++ ls)

pub no_schemas : (vs : List (Bor Value)) → true ≡ (length vs == 0) → vs ≡ []
no_schemas [] e = refl
no_schemas (v ∷ vs) e = absurd (true≢false (e ∙ eqb-suc-zero (length vs)))

-- nothing is left
pub at_end : (root : Value) (levels : List Level) (here : List (Bor Value)) → here ≡ [] → IsLeft root levels here
    → IsEnough (view root) levels
at_end root levels here none left =
    subst (IsEnough (view root)) (append-nil levels)
    (left [] (subst (λ vs. AreEnough (schemas_seen vs) []) (sym none) tt))

-- one level more
pub at_next : (root : Value) (levels more : List Level) (here : List (Bor Value)) (a : Asked)
    → AsksAll a (schemas_seen here) → a.is_whole ≡ false → a.are_items_whole ≡ false
    → more ≡ levels ++ Part a.has_text a.names ∷ [] → IsLeft root levels here → IsLeft root more a.below.items
at_next root levels more here a asks part items pushed left = λ ls e.
    subst (λ xs. IsEnough (view root) (xs ++ ls)) (sym pushed)
    (subst (IsEnough (view root)) (sym (append_assoc levels (Part a.has_text a.names ∷ []) ls))
    (left (Part a.has_text a.names ∷ ls)
    (level_enough a ls part (λ h. absurd (true≢false (sym h ∙ items))) e (schemas_seen here) asks)))

-- and all of the next
pub at_whole_items : (root : Value) (levels more : List Level) (here : List (Bor Value)) (a : Asked)
    → AsksAll a (schemas_seen here) → a.is_whole ≡ false → more ≡ levels ++ Part a.has_text a.names ∷ []
    → IsLeft root levels here → IsEnough (view root) (more ++ Whole ∷ [])
at_whole_items root levels more here a asks part pushed left =
    subst (λ xs. IsEnough (view root) (xs ++ Whole ∷ [])) (sym pushed)
    (subst (IsEnough (view root)) (sym (append_assoc levels (Part a.has_text a.names ∷ []) (Whole ∷ [])))
    (left (Part a.has_text a.names ∷ Whole ∷ [])
    (level_enough a (Whole ∷ []) part (λ h. refl) (whole_for_all (schemas_seen a.below.items) []) (schemas_seen here)
    asks)))
