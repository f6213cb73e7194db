use Rattle.std.specs.Prelude.{◌≡◌, List, [], ◌∷◌, ◌↔◌, Bool, true, IsTrue}
use Rattle.std.proofs.Common.{refl, sym, ◌∙◌, ap}
use Rattle.std.proofs.lemmas.Bool.{true≢false}
use Rattle.jskw_report.specs.Fail.{is_empty, fail, keyword_fail}
use Rattle.jskw_report.proofs.HoldsIsNoFailure.{holds_empty, keyword_empty}
use Rattle.jskw_report.proofs.EvaluationValidity.{tree_valid, unit_valid}
use Rattle.jskw_report.proofs.laws.verdicts_agree.Goals as goal

-- an empty list is the list of nothing
empty_is_nil : {A : Type 0} (xs : List A) → is_empty xs ≡ true → xs ≡ []
empty_is_nil [] e = refl
empty_is_nil (x ∷ xs) e = absurd (true≢false (sym e))

-- a test that tells whether the list is empty
where_empty : {A : Type 0} (b : Bool) (xs : List A) → b ≡ is_empty xs → IsTrue b ↔ (xs ≡ [])
where_empty b xs e = (λ h. empty_is_nil xs (sym e ∙ h), λ f. e ∙ ap is_empty f)

pub returns-clause-errors : goal.returns-clause-errors
returns-clause-errors c = λ s t p. where_empty _ (fail s t p) (holds_empty s t p)

pub returns-clause-keyword_errors : goal.returns-clause-keyword_errors
returns-clause-keyword_errors c = λ k t p. where_empty _ (keyword_fail k t p) (keyword_empty k t p)

pub returns-clause-trees : goal.returns-clause-trees
returns-clause-trees c = tree_valid

pub returns-clause-units : goal.returns-clause-units
returns-clause-units c = unit_valid
