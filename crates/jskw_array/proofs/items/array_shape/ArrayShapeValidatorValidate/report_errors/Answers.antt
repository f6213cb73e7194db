use Rattle.std.proofs.Common.{sym, subst, append-nil}
use Rattle.jskw_array.specs.Words.{Reports, absorbed_keywords, all_fail, keyword_fail, path_of, validator_keyword}
use Rattle.jskw_report.proofs.AppendedKeywords.{fail_appended}
use Rattle.jskw_report.proofs.ReportedFailures.{reports_begun, reports_behind}
use Rattle.jskw_array.proofs.WalksOverParts.{items_keywords}
use Rattle.jskw_array.proofs.items.array_shape.ArrayShapeValidatorValidate.report_errors.Goals as goal

pub returns-in_err-report_errors-clause-reported : goal.returns-in_err-report_errors-clause-reported
returns-in_err-report_errors-clause-reported g c =
    let tree = g.F.Node.Rooted.tree in
    let instance = tree c.args.instance.now in
    let p = path_of c.args.location.now in
    let v = c.args.self.now in
    let whole = fail_appended instance p (absorbed_keywords v.absorbed) (items_keywords v) in
    subst (λ fs. Reports tree c.args.report.now c.report_errors.new.report fs c.from_residual.result) (sym whole)
    (reports_begun tree (all_fail (absorbed_keywords v.absorbed) instance p) (all_fail (items_keywords v) instance p) _
    _ c.from_residual.ensures.1 c.in_err-report_errors.ensures)

pub returns-clause-reported : goal.returns-clause-reported
returns-clause-reported g c =
    let tree = g.F.Node.Rooted.tree in
    let instance = tree c.args.instance.now in
    let p = path_of c.args.location.now in
    let v = c.args.self.now in
    let whole = fail_appended instance p (absorbed_keywords v.absorbed) (items_keywords v) in
    let old = c.args.report.now in
    let now = c.report_errors.new.report in
    let new = c.report_errors-2.new.report in
    let r = c.report_errors-2.result in
    let alone = sym (append-nil (keyword_fail (validator_keyword v.items.validator) instance p)) in
    let last = subst (λ fs. Reports tree now new fs r) alone c.report_errors-2.ensures.reported in
    subst (λ fs. Reports tree old new fs r) (sym whole) (reports_behind tree
    (all_fail (absorbed_keywords v.absorbed) instance p) (all_fail (items_keywords v) instance p) r
    c.in_ok-report_errors.ensures last)
