use Rattle.std.proofs.Common.{◌≡◌, List, ◌∷◌, [], refl, subst, rules, Err}
use Rattle.jskw_value.specs.DecimalTree.{decimal_tree}
use Rattle.jskw_report.specs.Errors.{failure_of}
use Rattle.jskw_report.specs.Fail.{Failure, fail}
use Rattle.jskw_report.specs.Observe.{IsFirst}
use Rattle.jskw_report.specs.Paths.{path_of}
use Rattle.jskw_c.proofs.OutcomesOfInstances.{reports_first, reports_no_error}
use Rattle.jskw_c.proofs.ask.first_error_of.Goals as goal

pub returns-in-Ok : goal.returns-in-Ok
returns-in-Ok c =
    let s = c.args.schema.now in
    let t = decimal_tree c.args.instance.now in
    let none : fail s t [] ≡ [] = search rules in
    reports_no_error s t c.status_alone.result none c.status_alone.ensures.status c.status_alone.ensures.text

pub returns-in-Err-Invalid : goal.returns-in-Err-Invalid
returns-in-Err-Invalid c =
    let s = c.args.schema.now in
    let t = decimal_tree c.args.instance.now in
    let f = failure_of decimal_tree c.in-Err-Invalid.error in
    let first : (rest : List Failure) × (fail s t (path_of c.new-location.result) ≡ f ∷ rest) =
    subst (λ fault. IsFirst decimal_tree (fail s t (path_of c.new-location.result)) (Err fault))
    c.in-Err-Invalid.field-0-is c.in-Err-Invalid.ensures.first in
    let all : fail s t [] ≡ f ∷ first.0 = search (rules, first.1) in
    reports_first s t _ f first.0 all refl
    (rw c.from_ref.ensures.value at c.in_ok-error_lines-in-Err-Invalid.ensures)
