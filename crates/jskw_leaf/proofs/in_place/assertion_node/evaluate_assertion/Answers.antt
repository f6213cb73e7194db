use Rattle.std.proofs.Common.{◌≡◌, ◌∙◌, ap, ap₂, sym, subst, IfOk}
use Rattle.jskw_report.specs.Errors.{kind_of}
use Rattle.jskw_report.specs.Observe.{failures_unless}
use Rattle.jskw_report.specs.Evaluation.{node_at, of_errors}
use Rattle.jskw_report.proofs.FailsAtMostOnce.{fails_unless}
use Rattle.jskw_leaf.proofs.in_place.assertion_node.evaluate_assertion.Goals as goal

pub returns : goal.returns
returns g c =
    let t = g.F.Node.Rooted.tree c.args.instance.now in
    let p = c.args.path.now in
    let x = c.args.assertion.now in
    let a = g.A.Assertion.asserts x in
    let k = kind_of c.kind-kind.result in
    let fails = fails_unless a k c.kind-kind.ensures t p c.args.holds c.requires in
    let unit_is =
    c.in_ok-result.ensures ∙ ap (λ q. of_errors (failures_unless c.args.holds k q t p)) c.location-schema_path.ensures
    ∙ ap of_errors (sym fails) in
    subst (λ n. IfOk c.at_keyword.result (λ node. node ≡ n))
    (ap₂ (λ q r. node_at q p r) c.location-schema_path.ensures unit_is) c.at_keyword.ensures
