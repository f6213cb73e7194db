use Rattle.std.proofs.Common.{rules, ◌∙◌, false, refl, sym, arith}
use Rattle.jskw_array.specs.Words.{holds, items, needed}
use Rattle.jskw_array.proofs.AcceptedValues.{counted_within, one_needed}
use Rattle.jskw_array.proofs.PartsLeft.{left_within, only_holds, only_lower, only_needs}
use Rattle.jskw_array.proofs.WalksOverParts.{own_holds, own_lower, own_needs, passed_at, stopped_at, part_height}
use Rattle.jskw_array.proofs.WalksOverItems.{each_holds_end, each_lower, until_at}
use Rattle.jskw_array.proofs.PassedItems.{passed_applied, passed_holds}
use Rattle.jskw_array.proofs.+is_valid.Goals as goal

-- ---- a schema for each item

pub each::EachValidate::is_valid-loop-index-init : goal.each::EachValidate::is_valid-loop-index-init
each::EachValidate::is_valid-loop-index-init g t c =
    let v = c.args.self.now in
    let u = g.F.Node.Rooted.tree c.args.instance.now in
    record {
      last = omega arith;
      answer = refl;
      counted_from = omega arith;
      counted_to = omega arith;
    }

pub each::EachValidate::is_valid-is_valid-requires : goal.each::EachValidate::is_valid-is_valid-requires
each::EachValidate::is_valid-is_valid-requires g t c κs within =
    let lower = each_lower c.args.self.now c.loop-index.index c.index.result.now (omega arith) c.index.ensures in
    (omega (arith, lower, c.decreases), search rules)

pub each::EachValidate::is_valid-returns-clause-answer : goal.each::EachValidate::is_valid-returns-clause-answer
each::EachValidate::is_valid-returns-clause-answer g t c =
    let l = c.loop-index in
    let none =
    each_holds_end c.args.self.now.nodes.items
    (items (g.F.Node.Rooted.tree c.args.instance.now)) l.index (omega arith) in
    let left = l.invariant.answer in
    cc

-- ---- one schema for the items from an index on

pub rest::RestValidate::is_valid-returns-then-not-is_valid-clause-counted
    : goal.rest::RestValidate::is_valid-returns-then-not-is_valid-clause-counted
rest::RestValidate::is_valid-returns-then-not-is_valid-clause-counted g t c =
    let l = c.loop-index in
    let s = c.args.self.now.node in
    let tree = g.F.Node.Rooted.tree in
    let next = c.is_valid.ensures.counted in
    let cost =
    until_at (items (tree c.args.instance.now)) l.index (tree c.item.result.now) (omega arith) c.item.ensures.value
    (holds s) (needed s) in
    record {
      from =
          omega (arith, l.invariant.counted_from, next.from);
      to = omega (arith, cost, l.invariant.counted_to, next.to);
    }

pub rest::RestValidate::is_valid-returns-clause-counted : goal.rest::RestValidate::is_valid-returns-clause-counted
rest::RestValidate::is_valid-returns-clause-counted g t c =
    record { from = c.loop-index.invariant.counted_from; to = omega (arith, c.loop-index.invariant.counted_to) }

pub rest::RestValidate::is_valid-loop-index-init : goal.rest::RestValidate::is_valid-loop-index-init
rest::RestValidate::is_valid-loop-index-init g t c =
    let v = c.args.self.now in
    let u = g.F.Node.Rooted.tree c.args.instance.now in
    let i = c.skip-index.result in
    let taken = c.skip-index.ensures in
    let counted = taken.counted.counted in
    let cost = passed_applied v.node u v.start i taken.passed false in
    record {
      answer = passed_holds v.node u v.start i taken.passed;
      counted_from = counted.from;
      counted_to = omega (arith, cost, counted.to);
    }

pub rest::RestValidate::is_valid-is_valid-requires : goal.rest::RestValidate::is_valid-is_valid-requires
rest::RestValidate::is_valid-is_valid-requires g t c κs within =
    (omega (arith, c.decreases), search rules)

-- ---- the parts

pub part::parts_are_valid-is_valid-requires : goal.part::parts_are_valid-is_valid-requires
part::parts_are_valid-is_valid-requires g t c κs within =
    let lower =
    part_height c.args.parts.now c.loop-part.part-index c.part-item.result c.loop-part-test.true c.part-item.is in
    let own = own_lower c.part-item.result c.keyword.result.now c.keyword.ensures in
    (omega (arith, own, lower, c.decreases), search rules)

pub part::parts_are_valid-loop-part-preserved : goal.part::parts_are_valid-loop-part-preserved
part::parts_are_valid-loop-part-preserved g t c =
    let l = c.loop-part in
    let holds =
    sym (own_holds c.part-item.result c.keyword.result.now c.keyword.ensures (g.F.Node.Rooted.tree c.args.instance.now))
    ∙ sym c.is_valid.ensures.answer ∙ c.if-not-is_valid.false in
    let passed =
    passed_at c.args.parts.now l.part-index c.part-item.result c.loop-part-test.true c.part-item.is
    (g.F.Node.Rooted.tree c.args.instance.now) holds in
    let next = c.is_valid.ensures.counted in
    let needs =
    own_needs c.part-item.result c.keyword.result.now c.keyword.ensures (g.F.Node.Rooted.tree c.args.instance.now) in
    record {
      answer = l.invariant.answer ∙ passed.0;
      counted_from = omega (arith, l.invariant.counted_from, next.from);
      counted_to = omega (arith, needs, passed.1, l.invariant.counted_to, next.to);
    }

pub part::parts_are_valid-returns-then-not-is_valid-clause-answer
    : goal.part::parts_are_valid-returns-then-not-is_valid-clause-answer
part::parts_are_valid-returns-then-not-is_valid-clause-answer g t c =
    let fails =
    sym (own_holds c.part-item.result c.keyword.result.now c.keyword.ensures (g.F.Node.Rooted.tree c.args.instance.now))
    ∙ sym c.is_valid.ensures.answer ∙ c.if-not-is_valid.true in
    let stopped =
    stopped_at c.args.parts.now c.loop-part.part-index c.part-item.result c.loop-part-test.true c.part-item.is
    (g.F.Node.Rooted.tree c.args.instance.now) fails in
    sym (c.loop-part.invariant.answer ∙ stopped.0)

pub part::parts_are_valid-returns-then-not-is_valid-clause-counted
    : goal.part::parts_are_valid-returns-then-not-is_valid-clause-counted
part::parts_are_valid-returns-then-not-is_valid-clause-counted g t c =
    let l = c.loop-part in
    let fails =
    sym (own_holds c.part-item.result c.keyword.result.now c.keyword.ensures (g.F.Node.Rooted.tree c.args.instance.now))
    ∙ sym c.is_valid.ensures.answer ∙ c.if-not-is_valid.true in
    let stopped =
    stopped_at c.args.parts.now l.part-index c.part-item.result c.loop-part-test.true c.part-item.is
    (g.F.Node.Rooted.tree c.args.instance.now) fails in
    let next = c.is_valid.ensures.counted in
    let needs =
    own_needs c.part-item.result c.keyword.result.now c.keyword.ensures (g.F.Node.Rooted.tree c.args.instance.now) in
    record {
      from =
          omega (arith, l.invariant.counted_from, next.from);
      to =
          omega (arith, needs, stopped.1, l.invariant.counted_to, next.to);
    }

-- ---- a node

pub node::Subschema::is_valid-returns-then-apply_if_accepted-clause-counted
    : goal.node::Subschema::is_valid-returns-then-apply_if_accepted-clause-counted
node::Subschema::is_valid-returns-then-apply_if_accepted-clause-counted g t c =
    counted_within _ _ _ c.apply_if_accepted.result c.if-apply_if_accepted.true
    (one_needed c.args.self.now (g.F.Node.Rooted.tree c.args.instance.now)) c.apply_if_accepted.ensures.counted

pub node::Subschema::keywords_are_valid-parts_are_valid-requires
    : goal.node::Subschema::keywords_are_valid-parts_are_valid-requires
node::Subschema::keywords_are_valid-parts_are_valid-requires g t c κs within =
    let left = c.in-Some.ensures.parts in
    (omega (arith, left.lower, c.decreases), search rules)

pub node::Subschema::keywords_are_valid-is_valid-requires : goal.node::Subschema::keywords_are_valid-is_valid-requires
node::Subschema::keywords_are_valid-is_valid-requires g t c κs within =
    let left = c.in-Some.ensures.parts in
    let below = only_lower c.in-Some.parts.now _ _ c.in-len1.len_at_least c.in-len1.len_below c.part-item.is in
    let own = own_lower c.part-item.result c.keyword.result.now c.keyword.ensures in
    (omega (arith, left.lower, own, below, c.decreases), search rules)

pub node::Subschema::keywords_are_valid-returns-in-len1-clause-answer
    : goal.node::Subschema::keywords_are_valid-returns-in-len1-clause-answer
node::Subschema::keywords_are_valid-returns-in-len1-clause-answer g t c =
    let only =
    only_holds c.in-Some.parts.now _ _ c.in-len1.len_at_least c.in-len1.len_below c.part-item.is
    (g.F.Node.Rooted.tree c.args.instance.now) in
    c.is_valid.ensures.answer
    ∙ own_holds c.part-item.result c.keyword.result.now c.keyword.ensures (g.F.Node.Rooted.tree c.args.instance.now)
    ∙ sym (c.in-Some.ensures.parts.answer ∙ only)

pub node::Subschema::keywords_are_valid-returns-in-len1-clause-counted
    : goal.node::Subschema::keywords_are_valid-returns-in-len1-clause-counted
node::Subschema::keywords_are_valid-returns-in-len1-clause-counted g t c =
    let only =
    only_needs c.in-Some.parts.now _ _ c.in-len1.len_at_least c.in-len1.len_below c.part-item.is
    (g.F.Node.Rooted.tree c.args.instance.now) in
    let needs =
    own_needs c.part-item.result c.keyword.result.now c.keyword.ensures (g.F.Node.Rooted.tree c.args.instance.now) in
    left_within c.in-Some.ensures.parts false c.count_and_remaining_parts.ensures.counted c.is_valid.ensures.counted
    (omega (arith, needs, only))

pub node::Subschema::keywords_are_valid-returns-in_default-parts-clause-answer
    : goal.node::Subschema::keywords_are_valid-returns-in_default-parts-clause-answer
node::Subschema::keywords_are_valid-returns-in_default-parts-clause-answer g t c =
    c.parts_are_valid.ensures.answer ∙ sym c.in-Some.ensures.parts.answer

pub node::Subschema::keywords_are_valid-returns-in_default-parts-clause-counted
    : goal.node::Subschema::keywords_are_valid-returns-in_default-parts-clause-counted
node::Subschema::keywords_are_valid-returns-in_default-parts-clause-counted g t c =
    left_within c.in-Some.ensures.parts false c.count_and_remaining_parts.ensures.counted
    c.parts_are_valid.ensures.counted (omega arith)
