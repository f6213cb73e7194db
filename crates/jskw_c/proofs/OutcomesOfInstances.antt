-- The outcome on an instance, case by case.
use Rattle.std.proofs.Common.{◌≡◌, ◌∙◌, ℕ, List, [], ◌∷◌, true, false, take, sym}
use Rattle.std.proofs.Common.{ap, subst}
use Rattle.jskw_value.specs.Tree.{Tree}
use Rattle.jskw_report.specs.Evaluation.{Evaluation, is_valid, tree}
use Rattle.jskw_report.specs.Fail.{Failure, fail, is_empty}
use Rattle.jskw_report.specs.Holds.{holds}
use Rattle.jskw_report.specs.Keyword.{Schema}
use Rattle.jskw_report.proofs.HoldsIsNoFailure.{holds_empty}
use Rattle.jskw_report.proofs.EvaluationValidity.{tree_valid}
use Rattle.jskw_service.specs.FirstErrors.{first_of}
use Rattle.jskw_c.specs.Asked.{SaysErrors, SaysFirst, SaysTree, verdict_status}
use Rattle.jskw_c.specs.Evaluated.{evaluation_text}
use Rattle.jskw_c.specs.Line.{AreErrorLines}
use Rattle.jskw_c.specs.Replies.{IsOutcomeOnTree}
use Rattle.jskw_c.specs.Status.{VALID, INVALID}
use Rattle.jskw_c.specs.declared.ask.Outcome.{Outcome}

-- the first so many errors
pub reports_errors : (limit : ℕ) (s : Schema) (t : Tree) (outcome : Outcome)
    → outcome.status ≡ verdict_status (is_empty (fail s t []))
    → AreErrorLines (first_of limit (fail s t [])) outcome.text.items
    → IsOutcomeOnTree (SaysErrors limit) s t outcome
reports_errors limit s t outcome st text =
    record { status_is = st ∙ ap verdict_status (sym (holds_empty s t [])); text_is = text }

-- the first error
pub reports_first : (s : Schema) (t : Tree) (outcome : Outcome) (f : Failure) (rest : List Failure)
    → fail s t [] ≡ f ∷ rest → outcome.status ≡ INVALID → AreErrorLines (f ∷ []) outcome.text.items
    → IsOutcomeOnTree SaysFirst s t outcome
reports_first s t outcome f rest all st text =
    let same : holds s t ≡ false = holds_empty s t [] ∙ ap is_empty all in
    record {
      status_is = st ∙ ap verdict_status (sym same);
      text_is = subst (λ gs. AreErrorLines (take 1 gs) outcome.text.items) (sym all) text;
    }

-- no error
pub reports_no_error : (s : Schema) (t : Tree) (outcome : Outcome) → fail s t [] ≡ [] → outcome.status ≡ VALID
    → outcome.text.items ≡ [] → IsOutcomeOnTree SaysFirst s t outcome
reports_no_error s t outcome none st text =
    let same : holds s t ≡ true = holds_empty s t [] ∙ ap is_empty none in
    record {
      status_is = st ∙ ap verdict_status (sym same);
      text_is = subst (λ gs. AreErrorLines (take 1 gs) outcome.text.items) (sym none) text;
    }

-- the evaluation tree
pub reports_tree : (s : Schema) (t : Tree) (outcome : Outcome) (e : Evaluation) → e ≡ tree s t []
    → outcome.status ≡ verdict_status (is_valid e) → outcome.text.items ≡ evaluation_text e
    → IsOutcomeOnTree SaysTree s t outcome
reports_tree s t outcome e is st text =
    let same : is_valid e ≡ holds s t = ap is_valid is ∙ tree_valid s t [] in
    record { status_is = st ∙ ap verdict_status same; text_is = text ∙ ap evaluation_text is }
