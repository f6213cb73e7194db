use Rattle.std.proofs.Common.{rules, ◌≡◌, ◌∙◌, ◌+◌, ◌++◌, [], ◌∷◌, None, length, drop, ap, ap₂, subst, sym, refl, IfOk}
use Rattle.std.proofs.Common.{arith}
use Rattle.std.proofs.Common.{if◌then◌else◌}
use Rattle.std.proofs.lemmas.Grind.{common_steps}
use Rattle.jskw_array.specs.Words.{boxed_bounds, evaluate_each, evaluate_pairs, failing_locations, holds, item_location}
use Rattle.jskw_array.specs.Words.{height, items, keywords_of, matching_result, meaning_unit, node_at, of_children}
use Rattle.jskw_array.specs.Words.{one_keyword, own_keyword, pairs}
use Rattle.jskw_array.specs.Words.{part_meaning, path_of, result_of, schemas_of, tree, units, validator_keyword}
use Rattle.jskw_report.proofs.GatheredNodes.{appended, gathered_all, index_end, index_met, node_end, node_met}
use Rattle.jskw_report.proofs.EvaluationValidity.{tree_valid}
use Rattle.jskw_array.proofs.WalksOverParts.{keywords_end, own_counted, own_gives, own_lower, pairs_at, part_height}
use Rattle.jskw_array.proofs.WalksOverParts.{part_taken}
use Rattle.jskw_array.proofs.MatchedItems.{matching_is_unit}
use Rattle.jskw_array.proofs.WalksOverItems.{each_lower, each_pairs_at, each_nodes_at, each_nodes_end, sum_at, nodes_at}
use Rattle.jskw_array.proofs.+evaluate.Goals as goal

-- ---- a schema for each item

pub each::EachValidate::evaluate-loop-index-init : goal.each::EachValidate::evaluate-loop-index-init
each::EachValidate::evaluate-loop-index-init g t c =
    let v = c.args.self.now in
    let instance = g.F.Node.Rooted.tree c.args.instance.now in
    record {
      last = omega arith;
      gathered =
          ap (λ es. es ++ evaluate_pairs (schemas_of v.nodes.items) 0 (items instance) (path_of c.args.location.now))
          c.in_ok-children.ensures.items;
      location = refl;
      counted_from = omega arith;
      counted_to = omega arith;
    }

pub each::EachValidate::evaluate-evaluate_item-made-requires
    : goal.each::EachValidate::evaluate-evaluate_item-made-requires
each::EachValidate::evaluate-evaluate_item-made-requires g t c κs within =
    let lower = each_lower c.args.self.now c.loop-index.index c.index.result.now (omega arith) c.index.ensures in
    (omega (arith, lower, c.decreases), search rules)

pub each::EachValidate::evaluate-loop-index-preserved : goal.each::EachValidate::evaluate-loop-index-preserved
each::EachValidate::evaluate-loop-index-preserved g t c =
    let l = c.loop-index in
    let ss = c.args.self.now.nodes.items in
    let ts = items (g.F.Node.Rooted.tree c.args.instance.now) in
    let s = c.index.result.now in
    let u = g.F.Node.Rooted.tree c.item-item.result.now in
    let p = path_of c.args.location.now in
    let made =
    c.in_ok-push_item.ensures (tree s u (item_location (path_of l.location) l.index)) c.evaluate_item-made.ensures.gives
    ∙ ap (λ q. l.children.items ++ tree s u (item_location (path_of q) l.index) ∷ []) l.invariant.location in
    let behind = evaluate_pairs (schemas_of (drop (l.index + 1) ss)) (l.index + 1) (drop (l.index + 1) ts) p in
    let within = c.index.ensures in
    let cost = each_pairs_at ss ts l.index s u (omega arith) (omega arith) within c.item-item.ensures.value in
    let next =
    each_nodes_at ss ts l.index s u (omega arith) (omega arith) within c.item-item.ensures.value p in
    record {
      last = l.invariant.last;
      gathered = appended (tree s u (item_location p l.index) ∷ []) _ behind _ _ _ next made l.invariant.gathered;
      location = c.evaluate_item-made.ensures.location ∙ l.invariant.location;
      counted_from = grind (arith, common_steps);
      counted_to = grind (arith, common_steps);
    }

pub each::EachValidate::evaluate-returns-clause-gives : goal.each::EachValidate::evaluate-returns-clause-gives
each::EachValidate::evaluate-returns-clause-gives g t c =
    let l = c.loop-index in
    let v = c.args.self.now in
    let instance = g.F.Node.Rooted.tree c.args.instance.now in
    let p = path_of c.args.location.now in
    c.unit.ensures p
    (gathered_all _ _ _ (each_nodes_end v.nodes.items (items instance) l.index (omega arith) p) l.invariant.gathered)

-- ---- one schema for the items from an index on

pub rest::RestValidate::evaluate-evaluate_item-made-requires
    : goal.rest::RestValidate::evaluate-evaluate_item-made-requires
rest::RestValidate::evaluate-evaluate_item-made-requires g t c κs within =
    (omega (arith, c.decreases), search rules)

pub rest::RestValidate::evaluate-loop-index-preserved : goal.rest::RestValidate::evaluate-loop-index-preserved
rest::RestValidate::evaluate-loop-index-preserved g t c =
    let l = c.loop-index in
    let s = c.args.self.now.node in
    let ts = items (g.F.Node.Rooted.tree c.args.instance.now) in
    let u = g.F.Node.Rooted.tree c.item-item.result.now in
    let p = path_of c.args.location.now in
    let made =
    c.in_ok-push_item.ensures (tree s u (item_location (path_of l.location) l.index)) c.evaluate_item-made.ensures.gives
    ∙ ap (λ q. l.children.items ++ tree s u (item_location (path_of q) l.index) ∷ []) l.invariant.location in
    let behind = evaluate_each (tree s) (l.index + 1) (drop (l.index + 1) ts) p in
    let cost = sum_at ts l.index u (omega arith) c.item-item.ensures.value (pairs s) in
    let next = nodes_at ts l.index u (omega arith) c.item-item.ensures.value s p in
    record {
      last = l.invariant.last;
      gathered = appended (tree s u (item_location p l.index) ∷ []) _ behind _ _ _ next made l.invariant.gathered;
      location = c.evaluate_item-made.ensures.location ∙ l.invariant.location;
      counted_from = grind (arith, common_steps);
      counted_to = grind (arith, common_steps);
    }

-- ---- the items that match

pub matching::MatchingValidate::evaluate-loop-index-preserved
    : goal.matching::MatchingValidate::evaluate-loop-index-preserved
matching::MatchingValidate::evaluate-loop-index-preserved g t c =
    let l = c.loop-index in
    let ts = items (g.F.Node.Rooted.tree c.args.instance.now) in
    let s = c.args.self.now.node in
    let u = g.F.Node.Rooted.tree c.item-item.result.now in
    let p = path_of c.args.location.now in
    let at = item_location (path_of l.location) l.index in
    let pushed = c.in_ok-push_match.ensures _ c.evaluate_item-made.ensures.gives in
    let nodes =
    pushed.0 ∙ ap (λ b. l.children.items ++ (if b then tree s u at ∷ [] else [])) (tree_valid s u at)
    ∙ ap (λ q. l.children.items ++ (if holds s u then tree s u (item_location (path_of q) l.index) ∷ [] else []))
    l.invariant.location in
    let indices = pushed.1 ∙ ap (λ b. l.matches.items ++ (if b then l.index ∷ [] else [])) (tree_valid s u at) in
    let cost = sum_at ts l.index u (omega arith) c.item-item.ensures.value (pairs s) in
    record {
      last = l.invariant.last;
      gathered =
          node_met ts l.index u (omega arith) c.item-item.ensures.value (holds s) (tree s) p _ _ _ nodes
          l.invariant.gathered;
      matching =
          index_met ts l.index u (omega arith) c.item-item.ensures.value (holds s) _ _ _ indices l.invariant.matching;
      location = c.evaluate_item-made.ensures.location ∙ l.invariant.location;
      counted_from = grind (arith, common_steps);
      counted_to = grind (arith, common_steps);
    }

pub matching::MatchingValidate::evaluate-returns-clause-gives
    : goal.matching::MatchingValidate::evaluate-returns-clause-gives
matching::MatchingValidate::evaluate-returns-clause-gives g t c =
    let l = c.loop-index in
    let instance = g.F.Node.Rooted.tree c.args.instance.now in
    let ts = items instance in
    let s = c.args.self.now.node in
    let p = path_of c.args.location.now in
    let nodes = gathered_all _ _ _ (node_end ts l.index (omega arith) (holds s) (tree s) p) l.invariant.gathered in
    let indices = gathered_all _ _ _ (index_end ts l.index (omega arith) (holds s)) l.invariant.matching in
    let b = boxed_bounds c.args.self.now.bounds in
    let is =
    ap₂ (λ is es. matching_result (failing_locations b (length is) instance) is es) indices nodes
    ∙ matching_is_unit s b instance p in
    subst (λ x. IfOk c.unit.result (λ r. result_of r ≡ x)) is c.unit.ensures

-- ---- the parts of a node

pub node::Subschema::evaluate_instance_below-evaluate-made-requires
    : goal.node::Subschema::evaluate_instance_below-evaluate-made-requires
node::Subschema::evaluate_instance_below-evaluate-made-requires g t c κs within =
    let l = c.loop-part in
    let lower = part_height c.in-Some.parts.now l.part-index c.part-item.result c.loop-part-test.true c.part-item.is in
    let own = own_lower c.part-item.result c.keyword-keyword.result.now c.keyword-keyword.ensures in
    let whole = ap height l.invariant.whole.1 in
    (omega (arith, own, lower, whole, c.decreases), search rules)

pub node::Subschema::evaluate_instance_below-loop-part-init
    : goal.node::Subschema::evaluate_instance_below-loop-part-init
node::Subschema::evaluate_instance_below-loop-part-init g t c =
    let instance = g.F.Node.Rooted.tree c.args.instance.now in
    let whole = c.in-Some.ensures in
    let begun = c.in_ok-path.ensures in
    record {
      whole = (whole.0, whole.1);
      gathered =
          ap (λ es. es ++ units (keywords_of c.in-Some.parts.now) instance (path_of c.args.location.now)) begun.1;
      path = begun.0;
      location = refl;
      applied = c.count_one.ensures.applied;
      counted_from = c.count_one.ensures.counted.from;
      counted_to = omega (arith, c.count_one.ensures.counted.to);
    }

pub node::Subschema::evaluate_instance_below-loop-part-preserved
    : goal.node::Subschema::evaluate_instance_below-loop-part-preserved
node::Subschema::evaluate_instance_below-loop-part-preserved g t c =
    let l = c.loop-part in
    let instance = g.F.Node.Rooted.tree c.args.instance.now in
    let p = path_of c.args.location.now in
    let us = c.in-Some.parts.now in
    let u = c.part-item.result in
    let k = c.keyword-keyword.result.now in
    let result =
    own_gives u k c.keyword-keyword.ensures instance _
    ∙ ap (λ q. meaning_unit (part_meaning u) instance (path_of q)) l.invariant.location in
    let r = meaning_unit (one_keyword (validator_keyword k.validator)) instance (path_of l.location) in
    let made =
    ap (λ x. node_at x.location c.in_ok-path.path r) c.keyword-keyword.ensures
    ∙ ap₂ (node_at (own_keyword u).location) l.invariant.path result in
    let more =
    c.in_ok-push_unit.ensures r c.evaluate-made.ensures.gives
    ∙ ap (λ e. l.children.items ++ e ∷ []) made in
    let cost = pairs_at us l.part-index u c.loop-part-test.true c.part-item.is instance in
    let next = own_counted u k c.keyword-keyword.ensures instance c.evaluate-made.ensures.counted in
    record {
      whole = l.invariant.whole;
      gathered =
          part_taken us l.part-index u c.loop-part-test.true c.part-item.is instance p _ _ _ more
          l.invariant.gathered;
      path = l.invariant.path;
      location = c.evaluate-made.ensures.location ∙ l.invariant.location;
      applied = omega (arith, l.invariant.applied, next.from);
      counted_from = omega (arith, l.invariant.counted_from, next.from);
      counted_to = omega (arith, cost, l.invariant.counted_to, next.to);
    }

pub node::Subschema::evaluate_instance_below-returns-clause-gives
    : goal.node::Subschema::evaluate_instance_below-returns-clause-gives
node::Subschema::evaluate_instance_below-returns-clause-gives g t c =
    let l = c.loop-part in
    let instance = g.F.Node.Rooted.tree c.args.instance.now in
    let p = path_of c.args.location.now in
    let made =
    gathered_all _ _ _
    (ap (λ ks. units ks instance p) (keywords_end c.in-Some.parts.now l.part-index c.loop-part-test.false))
    l.invariant.gathered in
    let node =
    ap₂ (λ q r. node_at c.location-2.result.now q (of_children None r)) l.invariant.path made
    ∙ ap (λ q. node_at q p (of_children None (units (keywords_of c.in-Some.parts.now) instance p))) c.location-2.ensures
    ∙ sym (ap (λ s. tree s instance p) l.invariant.whole.1) in
    subst (λ x. IfOk c.end_node.result (λ n. n ≡ x)) node c.end_node.ensures
