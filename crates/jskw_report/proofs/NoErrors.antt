-- What holds has no errors to append.
use Rattle.std.proofs.Common.{◌≡◌, ◌∙◌, ◌++◌, List, [], ◌∷◌, true, map, refl, sym, ap₂}
use Rattle.jskw_value.specs.Pointer.{Pointer}
use Rattle.jskw_value.specs.Tree.{Tree}
use Rattle.jskw_report.specs.Errors.{failure_of, failures_of}
use Rattle.jskw_report.specs.Fail.{keyword_fail}
use Rattle.jskw_report.specs.Holds.{keyword_holds}
use Rattle.jskw_report.specs.Keyword.{Keyword}
use Rattle.jskw_report.specs.declared.error.ValidationError.{ValidationError}
use Rattle.jskw_report.proofs.HoldsIsNoFailure.{keyword_empty, no_element}

-- only the empty list gives nothing
maps_none : {A B : Type 0} (f : A → B) (xs : List A) → map f xs ≡ [] → xs ≡ []
maps_none f [] e = refl
maps_none f (x ∷ xs) e = cc

-- where the keyword holds, it has no errors
pub none_fail : (k : Keyword) (t : Tree) (p : Pointer) → keyword_holds k t ≡ true → keyword_fail k t p ≡ []
none_fail k t p holds = no_element (keyword_fail k t p) (sym (keyword_empty k t p) ∙ holds)

-- then there are no errors behind none
pub none_appended : {F Node Number Key : Type 0} (tree : Node → Tree) (k : Keyword) (t : Tree) (p : Pointer)
    (old new : List (ValidationError F Node Number Key))
    → old ≡ [] → keyword_holds k t ≡ true → failures_of tree new ≡ failures_of tree old ++ keyword_fail k t p → new ≡ []
none_appended tree k t p old new none holds all =
    maps_none (failure_of tree) new
    (all ∙ ap₂ (λ es fs. failures_of tree es ++ fs) none (none_fail k t p holds))
