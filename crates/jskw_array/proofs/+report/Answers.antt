use Rattle.std.proofs.Common.{rules, ◌∙◌, refl, ap, subst, arith}
use Rattle.jskw_array.specs.Words.{Reports, all_fail, fail, item_location, items, keeps_list, CountsUpTo, path_of}
use Rattle.jskw_report.proofs.ReportedFailures.{reported_all, reports_memory, reports_none}
use Rattle.jskw_array.proofs.AcceptedValues.{counted_within, no_errors}
use Rattle.jskw_array.proofs.WalksOverParts.{keywords_end, own_lower, part_height}
use Rattle.jskw_leaf.proofs.TypeWalks.{entered}
use Rattle.jskw_array.proofs.WalksOverItems.{each_fails_end, each_lower}
use Rattle.jskw_array.proofs.PassedItems.{passed_applied, passed_fails}
use Rattle.jskw_array.proofs.ReportingWalks.{each_applied, each_step, item_step, one_applied, rest_applied, part_step}
use Rattle.jskw_array.proofs.ReportingWalks.{walk_begun, walk_counted, walk_on, walk_stopped}
use Rattle.jskw_array.proofs.+report.Goals as goal

-- ---- an item

pub node::Subschema::report_item-returns-then-apply_if_accepted-clause-reported
    : goal.node::Subschema::report_item-returns-then-apply_if_accepted-clause-reported
node::Subschema::report_item-returns-then-apply_if_accepted-clause-reported g t c =
    let tree = g.F.Node.Rooted.tree in
    reports_none tree c.args.report.now _
    (no_errors c.args.self.now (tree c.args.item.now) (item_location (path_of c.args.location.now) c.args.index)
    (c.apply_if_accepted.ensures.valid c.if-apply_if_accepted.true))

pub node::Subschema::report_item-returns-then-apply_if_accepted-clause-counted
    : goal.node::Subschema::report_item-returns-then-apply_if_accepted-clause-counted
node::Subschema::report_item-returns-then-apply_if_accepted-clause-counted g t c =
    counted_within _ _ _ c.apply_if_accepted.result c.if-apply_if_accepted.true
    (one_applied (keeps_list c.args.report.now) c.args.self.now (g.F.Node.Rooted.tree c.args.item.now))
    c.apply_if_accepted.ensures.counted

pub node::Subschema::report_item-returns-in_err-push-clause-reported
    : goal.node::Subschema::report_item-returns-in_err-push-clause-reported
node::Subschema::report_item-returns-in_err-push-clause-reported g t c =
    reports_memory g.F.Node.Rooted.tree c.args.report.now _ _ _ c.from_residual.ensures.1

pub node::Subschema::report_item-returns-clause-reported : goal.node::Subschema::report_item-returns-clause-reported
node::Subschema::report_item-returns-clause-reported g t c =
    let tree = g.F.Node.Rooted.tree in
    subst (λ q. Reports tree c.args.report.now c.report_errors-reported.new.report
    (fail c.args.self.now (tree c.args.item.now) q) c.report_errors-reported.result)
    (entered c.args.index c.in_ok-push.ensures.pushed refl) c.report_errors-reported.ensures.reported

-- ---- a schema for each item

pub each::EachValidate::report_errors-loop-index-init : goal.each::EachValidate::report_errors-loop-index-init
each::EachValidate::report_errors-loop-index-init g t c =
    let v = c.args.self.now in
    let tree = g.F.Node.Rooted.tree in
    let u = tree c.args.instance.now in
    let old = c.args.report.now in
    let p = path_of c.args.location.now in
    let none : CountsUpTo c.args.ctx.now c.args.ctx.now 0 = record { from = omega arith; to = omega arith } in
    record {
      last = omega arith;
      walk = walk_begun tree old refl none (omega (arith, each_applied (keeps_list old) v u));
      location = refl;
    }

pub each::EachValidate::report_errors-report_item-requires : goal.each::EachValidate::report_errors-report_item-requires
each::EachValidate::report_errors-report_item-requires g t c κs within =
    let lower = each_lower c.args.self.now c.loop-index.index c.index.result.now (omega arith) c.index.ensures in
    (omega (arith, lower, c.decreases), search rules)

pub each::EachValidate::report_errors-returns-in_err-report_item-clause-reported
    : goal.each::EachValidate::report_errors-returns-in_err-report_item-clause-reported
each::EachValidate::report_errors-returns-in_err-report_item-clause-reported g t c =
    let l = c.loop-index in
    let tree = g.F.Node.Rooted.tree in
    let step =
    each_step c.args.self.now.nodes.items (items (tree c.args.instance.now)) l.index _ _ (omega arith) (omega arith)
    c.index.ensures c.item.ensures.value (path_of c.args.location.now) in
    walk_stopped tree l.invariant.walk step c.from_residual.ensures.1
    (rw l.invariant.location at c.in_err-report_item.ensures.reported)

pub each::EachValidate::report_errors-returns-in_err-report_item-clause-counted
    : goal.each::EachValidate::report_errors-returns-in_err-report_item-clause-counted
each::EachValidate::report_errors-returns-in_err-report_item-clause-counted g t c =
    let l = c.loop-index in
    let tree = g.F.Node.Rooted.tree in
    let step =
    each_step c.args.self.now.nodes.items (items (tree c.args.instance.now)) l.index _ _ (omega arith) (omega arith)
    c.index.ensures c.item.ensures.value (path_of c.args.location.now) in
    walk_counted tree l.invariant.walk step c.in_err-report_item.ensures.counted

pub each::EachValidate::report_errors-loop-index-preserved : goal.each::EachValidate::report_errors-loop-index-preserved
each::EachValidate::report_errors-loop-index-preserved g t c =
    let l = c.loop-index in
    let tree = g.F.Node.Rooted.tree in
    let next = c.in_ok-report_item.ensures in
    let step =
    each_step c.args.self.now.nodes.items (items (tree c.args.instance.now)) l.index _ _ (omega arith) (omega arith)
    c.index.ensures c.item.ensures.value (path_of c.args.location.now) in
    record {
      last = l.invariant.last;
      walk = walk_on tree l.invariant.walk step (rw l.invariant.location at next.reported) next.counted;
      location = next.location ∙ l.invariant.location;
    }

pub each::EachValidate::report_errors-returns-clause-reported
    : goal.each::EachValidate::report_errors-returns-clause-reported
each::EachValidate::report_errors-returns-clause-reported g t c =
    let l = c.loop-index in
    let tree = g.F.Node.Rooted.tree in
    reported_all tree l.invariant.walk.reported (each_fails_end c.args.self.now.nodes.items
    (items (tree c.args.instance.now)) l.index (omega arith) (path_of c.args.location.now))

-- ---- one schema for the items from an index on

pub rest::RestValidate::report_errors-loop-index-init : goal.rest::RestValidate::report_errors-loop-index-init
rest::RestValidate::report_errors-loop-index-init g t c =
    let v = c.args.self.now in
    let tree = g.F.Node.Rooted.tree in
    let u = tree c.args.instance.now in
    let old = c.args.report.now in
    let p = path_of c.args.location.now in
    let i = c.skip-index.result in
    let taken = c.skip-index.ensures in
    let left = passed_fails v.node u v.start i taken.passed p in
    let cost = passed_applied v.node u v.start i taken.passed (keeps_list old) in
    record {
      last = omega arith;
      walk = walk_begun tree old left taken.counted.counted (omega (arith, rest_applied (keeps_list old) v u, cost));
      location = refl;
    }

pub rest::RestValidate::report_errors-report_item-requires : goal.rest::RestValidate::report_errors-report_item-requires
rest::RestValidate::report_errors-report_item-requires g t c κs within =
    (omega (arith, c.decreases), search rules)

pub rest::RestValidate::report_errors-returns-in_err-report_item-clause-reported
    : goal.rest::RestValidate::report_errors-returns-in_err-report_item-clause-reported
rest::RestValidate::report_errors-returns-in_err-report_item-clause-reported g t c =
    let l = c.loop-index in
    let tree = g.F.Node.Rooted.tree in
    let step =
    item_step (items (tree c.args.instance.now)) l.index _ (omega arith) c.item.ensures.value c.args.self.now.node
    (path_of c.args.location.now) in
    walk_stopped tree l.invariant.walk step c.from_residual.ensures.1
    (rw l.invariant.location at c.in_err-report_item.ensures.reported)

pub rest::RestValidate::report_errors-returns-in_err-report_item-clause-counted
    : goal.rest::RestValidate::report_errors-returns-in_err-report_item-clause-counted
rest::RestValidate::report_errors-returns-in_err-report_item-clause-counted g t c =
    let l = c.loop-index in
    let tree = g.F.Node.Rooted.tree in
    let step =
    item_step (items (tree c.args.instance.now)) l.index _ (omega arith) c.item.ensures.value c.args.self.now.node
    (path_of c.args.location.now) in
    walk_counted tree l.invariant.walk step c.in_err-report_item.ensures.counted

pub rest::RestValidate::report_errors-loop-index-preserved : goal.rest::RestValidate::report_errors-loop-index-preserved
rest::RestValidate::report_errors-loop-index-preserved g t c =
    let l = c.loop-index in
    let tree = g.F.Node.Rooted.tree in
    let next = c.in_ok-report_item.ensures in
    let step =
    item_step (items (tree c.args.instance.now)) l.index _ (omega arith) c.item.ensures.value c.args.self.now.node
    (path_of c.args.location.now) in
    record {
      last = l.invariant.last;
      walk = walk_on tree l.invariant.walk step (rw l.invariant.location at next.reported) next.counted;
      location = next.location ∙ l.invariant.location;
    }

-- ---- the parts of a node

pub node::Subschema::report_errors-loop-part-init : goal.node::Subschema::report_errors-loop-part-init
node::Subschema::report_errors-loop-part-init g t c =
    let tree = g.F.Node.Rooted.tree in
    let old = c.args.report.now in
    let left = c.in-Some.ensures.parts in
    record {
      walk =
          walk_begun tree old (left.errors (path_of c.args.location.now)) c.count_and_remaining_parts.ensures.counted
          (omega (arith, left.applied (keeps_list old)));
      location = refl;
      applied = c.count_and_remaining_parts.ensures.applied;
      lower = left.lower;
    }

pub node::Subschema::report_errors-report_errors-requires : goal.node::Subschema::report_errors-report_errors-requires
node::Subschema::report_errors-report_errors-requires g t c κs within =
    let l = c.loop-part in
    let lower = part_height c.in-Some.parts.now l.part-index c.part-item.result c.loop-part-test.true c.part-item.is in
    let own = own_lower c.part-item.result c.keyword.result.now c.keyword.ensures in
    (omega (arith, own, lower, l.invariant.lower, c.decreases), search rules)

pub node::Subschema::report_errors-returns-in_err-report_errors-clause-reported
    : goal.node::Subschema::report_errors-returns-in_err-report_errors-clause-reported
node::Subschema::report_errors-returns-in_err-report_errors-clause-reported g t c =
    let l = c.loop-part in
    let tree = g.F.Node.Rooted.tree in
    let step =
    part_step c.in-Some.parts.now l.part-index c.part-item.result c.loop-part-test.true c.part-item.is
    (tree c.args.instance.now) (path_of c.args.location.now) in
    walk_stopped tree l.invariant.walk step c.from_residual.ensures.1
    (rw c.keyword.ensures at (rw l.invariant.location at c.in_err-report_errors.ensures.reported))

pub node::Subschema::report_errors-returns-in_err-report_errors-clause-counted
    : goal.node::Subschema::report_errors-returns-in_err-report_errors-clause-counted
node::Subschema::report_errors-returns-in_err-report_errors-clause-counted g t c =
    let l = c.loop-part in
    let tree = g.F.Node.Rooted.tree in
    let step =
    part_step c.in-Some.parts.now l.part-index c.part-item.result c.loop-part-test.true c.part-item.is
    (tree c.args.instance.now) (path_of c.args.location.now) in
    walk_counted tree l.invariant.walk step (rw c.keyword.ensures at c.in_err-report_errors.ensures.counted)

pub node::Subschema::report_errors-loop-part-preserved : goal.node::Subschema::report_errors-loop-part-preserved
node::Subschema::report_errors-loop-part-preserved g t c =
    let l = c.loop-part in
    let tree = g.F.Node.Rooted.tree in
    let next = c.in_ok-report_errors.ensures in
    let step =
    part_step c.in-Some.parts.now l.part-index c.part-item.result c.loop-part-test.true c.part-item.is
    (tree c.args.instance.now) (path_of c.args.location.now) in
    record {
      walk =
          walk_on tree l.invariant.walk step (rw c.keyword.ensures at (rw l.invariant.location at next.reported))
          (rw c.keyword.ensures at next.counted);
      location = next.location ∙ l.invariant.location;
      applied = omega (arith, l.invariant.applied, next.counted.from);
      lower = l.invariant.lower;
    }

pub node::Subschema::report_errors-returns-clause-reported : goal.node::Subschema::report_errors-returns-clause-reported
node::Subschema::report_errors-returns-clause-reported g t c =
    let l = c.loop-part in
    let tree = g.F.Node.Rooted.tree in
    reported_all tree l.invariant.walk.reported (ap
    (λ ks. all_fail ks (tree c.args.instance.now) (path_of c.args.location.now))
    (keywords_end c.in-Some.parts.now l.part-index c.loop-part-test.false))
