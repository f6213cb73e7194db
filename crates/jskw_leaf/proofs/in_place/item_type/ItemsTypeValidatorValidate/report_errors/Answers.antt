use Rattle.std.proofs.Common.{refl, arith}
use Rattle.std.proofs.lemmas.Grind.{common_steps}
use Rattle.jskw_value.specs.Tree.{items}
use Rattle.jskw_report.specs.Paths.{path_of}
use Rattle.jskw_report.proofs.ReportedFailures.{reported_last, reports_memory}
use Rattle.jskw_leaf.proofs.TypeWalks.{entered, type_begins, type_reported, type_stopped}
use Rattle.jskw_leaf.proofs.in_place.item_type.ItemsTypeValidatorValidate.report_errors.Goals as goal

pub loop-index-init : goal.loop-index-init
loop-index-init g c =
    let v = c.args.self.now in
    let tree = g.F.Node.Rooted.tree in
    let ts = items (tree c.args.instance.now) in
    let first = c.first_other-index in
    record {
      within = omega arith;
      last = omega arith;
      reported =
          type_begins g.T.TypeTest.json_type g.T.TypeTest.rule v.location v.validator.location ts
          (path_of c.args.location.now) tree _ first.result first.ensures.first;
      location = refl;
      counted = refl;
    }

pub returns-in_err-push-clause-reported : goal.returns-in_err-push-clause-reported
returns-in_err-push-clause-reported g c =
    let tree = g.F.Node.Rooted.tree in
    reported_last tree _ _ c.loop-index.invariant.reported
    (reports_memory tree c.loop-index.report _ _ _ c.from_residual.ensures.1)

pub returns-in_err-answer-clause-reported : goal.returns-in_err-answer-clause-reported
returns-in_err-answer-clause-reported g c =
    let l = c.loop-index in
    let v = c.args.self.now in
    let tree = g.F.Node.Rooted.tree in
    let at = entered l.index c.in_ok-push.ensures.pushed l.invariant.location in
    type_stopped g.T.TypeTest.json_type g.T.TypeTest.rule v.location v.validator.location
    (items (tree c.args.instance.now)) (path_of c.args.location.now) tree
    l.index (tree c.item-item.result.now) _ _ _ (omega arith) c.item-item.ensures.value at l.invariant.reported
    c.from_residual-in_err-answer.ensures.1 c.in_err-answer.ensures.reported

pub loop-index-preserved : goal.loop-index-preserved
loop-index-preserved g c =
    let l = c.loop-index in
    let v = c.args.self.now in
    let tree = g.F.Node.Rooted.tree in
    let at = entered l.index c.in_ok-push.ensures.pushed l.invariant.location in
    let next = c.first_other-index-in-loop-index in
    record {
      within = omega arith;
      last = l.invariant.last;
      reported =
          type_reported g.T.TypeTest.json_type g.T.TypeTest.rule v.location v.validator.location
          (items (tree c.args.instance.now)) (path_of c.args.location.now) tree
          l.index next.result (tree c.item-item.result.now) _ (omega arith) c.item-item.ensures.value at
          next.ensures.first l.invariant.reported c.in_ok-answer.ensures.reported;
      location = grind (arith, common_steps);
      counted = grind (arith, common_steps);
    }
