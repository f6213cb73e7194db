use Rattle.std.proofs.Common.{◌≡◌, ◌∙◌, ap₂, subst, IfOk, arith}
use Rattle.jskw_array.specs.Words.{fail, false_schema, node_at, path_of}
use Rattle.jskw_array.proofs.WalksOverParts.{refused_tree}
use Rattle.jskw_array.proofs.evaluation.evaluate_refusal.Goals as goal

pub returns : goal.returns
returns g c =
    let q = c.args.schema_path.now in
    let instance = g.F.Node.Rooted.tree c.args.instance.now in
    let p = path_of c.args.location.now in
    let result =
    c.in_ok-result.ensures.unit (fail (false_schema q) instance p) (omega arith)
    (c.first_result.ensures.first _ c.report_error-reported.ensures) in
    subst (λ x. IfOk c.at_keyword.result (λ node. node ≡ x))
    (ap₂ (node_at q) c.in_ok-path.ensures result ∙ refused_tree q instance p) c.at_keyword.ensures
