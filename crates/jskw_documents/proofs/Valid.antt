-- Documents that are found to be valid by what the schema looks at, and the answers to them.
use Rattle.std.proofs.Common.{◌≡◌, ◌≤◌, ◌+◌, ℕ, Bool, true, false, if◌then◌else◌, List, [], length, arith}
use Rattle.std.proofs.Common.{refl, sym, ap, subst, ◌∙◌}
use Rattle.std.specs.Prelude.{Option, None, Some, Result, Ok, Err}
use Rattle.jskw_value.specs.Pointer.{Pointer}
use Rattle.jskw_value.specs.Tree.{Tree}
use Rattle.jskw_text.specs.Wanted.{IsRead}
use Rattle.jskw_text.specs.declared.wanted.Level.{Level}
use Rattle.jskw_report.specs.Fail.{Failure, fail, is_empty}
use Rattle.jskw_report.specs.Holds.{holds}
use Rattle.jskw_report.specs.Keyword.{Schema}
use Rattle.jskw_report.proofs.HoldsIsNoFailure.{holds_empty, no_element}
use Rattle.jskw_service.specs.declared.service.Verdict.TheVariants.{Valid}
use Rattle.jskw_wanted.specs.Seen.{Sees}
use Rattle.jskw_wanted.proofs.Pruned.{the_law}
use Rattle.jskw_documents.specs.Documents.{IsAnswerOf, errors_of_read, errors_of_tree, verdict_if, verdict_of_read}
use Rattle.jskw_documents.specs.Reports.{IsReportAs, first_of, is_cut}
use Rattle.jskw_documents.specs.declared.checker.Checker.{Checker}
use Rattle.jskw_documents.specs.declared.options.Output.{Output}
use Rattle.jskw_documents.specs.declared.options.Output.TheVariants.{Text, Basic, Quiet}
use Rattle.jskw_documents.proofs.Cut.{uncut}
use Rattle.jskw_service.proofs.FirstErrors.{first_empty}

-- what is wanted of the document is valid
pub found_valid : (s : Schema) (ls : List Level) (t : Tree) (read : Option (Result Tree Pointer)) → Sees s ls
    → IsRead ls t read → holds s t ≡ true → verdict_of_read s read ≡ Valid
found_valid s ls t read sees (u, is, same) valid =
    let whole : holds s u ≡ true =
    sym (the_law s ls u sees) ∙ sym (ap (holds s) same) ∙ the_law s ls t sees ∙ valid in
    ap (verdict_of_read s) is ∙ ap verdict_if whole

holds_if : (b : Bool) → verdict_if b ≡ Valid → b ≡ true
holds_if true is = refl
holds_if false is = cc

no_failure : (s : Schema) (t : Tree) → holds s t ≡ true → fail s t [] ≡ []
no_failure s t valid = no_element (fail s t []) (sym (holds_empty s t []) ∙ valid)

no_first : (n : ℕ) (fs : List Failure) → fs ≡ [] → first_of n fs ≡ []
no_first n fs none = no_element (first_of n fs) (first_empty n fs ∙ ap is_empty none)

never_cut : (n : ℕ) (fs : List Failure) → fs ≡ [] → is_cut n fs ≡ false
never_cut n fs none =
    let first = no_first (n + 1) fs none in
    sym (uncut n fs (first_of (n + 1) fs) refl (subst (λ gs. length gs ≤ n) (sym first) (omega arith)))

-- the report on no error is the answer
pub valid_answer : (c : Checker) (file : List ℕ) (line : Option ℕ) (bytes : List ℕ)
    (read : Option (Result Tree Pointer)) (text : List ℕ) → verdict_of_read c.schema read ≡ Valid
    → IsReportAs c.options.output c.options.verbose file line false [] text → IsAnswerOf c file line bytes read text
valid_answer c file line bytes None text is report = cc
valid_answer c file line bytes (Some (Err p)) text is report = cc
valid_answer c file line bytes (Some (Ok t)) text is report =
    let o = c.options in
    let none = no_failure c.schema t (holds_if (holds c.schema t) is) in
    let fs = fail c.schema t [] in
    subst (λ cut. IsReportAs o.output o.verbose file line cut (first_of o.limit fs) text)
    (sym (never_cut o.limit fs none))
    (subst (λ gs. IsReportAs o.output o.verbose file line false gs text) (sym (no_first o.limit fs none)) report)

no_error : (output : Output) (limit : ℕ) (s : Schema) (t : Tree) → holds s t ≡ true
    → errors_of_tree output limit s t ≡ 0
no_error Quiet limit s t valid = ap (λ b. if b then 0 else 1) valid
no_error Text limit s t valid = ap (λ fs. length fs) (no_first limit (fail s t []) (no_failure s t valid))
no_error Basic limit s t valid = ap (λ fs. length fs) (no_first limit (fail s t []) (no_failure s t valid))

pub valid_errors : (output : Output) (limit : ℕ) (s : Schema) (read : Option (Result Tree Pointer))
    → verdict_of_read s read ≡ Valid → errors_of_read output limit s read ≡ 0
valid_errors output limit s None is = cc
valid_errors output limit s (Some (Err p)) is = cc
valid_errors output limit s (Some (Ok t)) is = no_error output limit s t (holds_if (holds s t) is)
