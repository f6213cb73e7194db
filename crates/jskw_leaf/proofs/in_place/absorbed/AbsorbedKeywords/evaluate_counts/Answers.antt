use Rattle.std.proofs.Common.{sym, subst}
use Rattle.jskw_leaf.specs.Items.{AppendsItems, optional}
use Rattle.jskw_number.specs.Meaning.{max_items, min_items}
use Rattle.jskw_report.specs.Evaluation.{units}
use Rattle.jskw_report.proofs.AppendedKeywords.{units_appended}
use Rattle.jskw_leaf.proofs.FusedErrors.{extends_before}
use Rattle.jskw_leaf.proofs.in_place.absorbed.AbsorbedKeywords.evaluate_counts.Goals as goal

pub returns-in_err-evaluate_bound : goal.returns-in_err-evaluate_bound
returns-in_err-evaluate_bound g c =
    let t = g.F.Node.Rooted.tree c.args.instance.now in
    let p = c.args.instance_location.now in
    let a = c.args.self.now in
    let first = units (optional min_items a.min_items) t p in
    let second = units (optional max_items a.max_items) t p in
    let bounds = units_appended t p (optional min_items a.min_items) (optional max_items a.max_items) in
    let begun =
    extends_before _ _ first second c.from_residual.result _ c.from_residual.ensures.1
    c.in_err-evaluate_bound.ensures in
    subst (λ es. AppendsItems c.args.children.now.items c.evaluate_bound.new.children.items es c.from_residual.result)
    (sym bounds) begun
