use Rattle.std.proofs.Common.{◌≡◌, true, subst, arith}
use Rattle.jskw_array.specs.Words.{Tree, holds, is_in, needed}
use Rattle.jskw_array.proofs.PartsLeft.{accepts_all}
use Rattle.jskw_array.proofs.PassedItems.{both_cost, leading_passed, passed_least, passes_both}
use Rattle.jskw_array.proofs.node.Subschema.skip.Goals as goal

pub returns-then-first-count-clause-passed : goal.returns-then-first-count-clause-passed
returns-then-first-count-clause-passed g c =
    let n = c.self.inside in
    let s = c.args.self.now in
    let valid : (t : Tree) → is_in n.accepted.values t ≡ true → holds s t ≡ true =
    λ t h. subst (λ r. holds r t ≡ true) c.self.view_is
    (accepts_all n.accepted n.assertions c.self.invariant.1 n.location n.delegates t h) in
    let outside = c.first_outside-first.ensures in
    leading_passed s (is_in n.accepted.values) valid (g.F.Node.Rooted.tree c.args.instance.now) c.args.start _
    (omega (arith, c.item_count-count.ensures, c.if-start-count.false)) outside.first
    (omega (arith, outside.within, c.item_count-count.ensures))

pub returns-then-first-count-clause-counted : goal.returns-then-first-count-clause-counted
returns-then-first-count-clause-counted g c =
    let n = c.self.inside in
    let s = c.args.self.now in
    let u = g.F.Node.Rooted.tree c.args.instance.now in
    let valid : (t : Tree) → is_in n.accepted.values t ≡ true → holds s t ≡ true =
    λ t h. subst (λ r. holds r t ≡ true) c.self.view_is
    (accepts_all n.accepted n.assertions c.self.invariant.1 n.location n.delegates t h) in
    let outside = c.first_outside-first.ensures in
    let first =
    leading_passed s (is_in n.accepted.values) valid u c.args.start _
    (omega (arith, c.item_count-count.ensures, c.if-start-count.false)) outside.first
    (omega (arith, outside.within, c.item_count-count.ensures)) in
    let least = passed_least s u c.args.start _ first in
    let counted = c.count_more.ensures in
    record {
      applied = omega (arith, counted.applied);
      counted = record { from = counted.counted.from; to = omega (arith, least, counted.counted.to) };
    }

pub returns-clause-passed : goal.returns-clause-passed
returns-clause-passed g c =
    let n = c.self.inside in
    let s = c.args.self.now in
    let u = g.F.Node.Rooted.tree c.args.instance.now in
    let valid : (t : Tree) → is_in n.accepted.values t ≡ true → holds s t ≡ true =
    λ t h. subst (λ r. holds r t ≡ true) c.self.view_is
    (accepts_all n.accepted n.assertions c.self.invariant.1 n.location n.delegates t h) in
    let outside = c.first_outside-first.ensures in
    let first =
    leading_passed s (is_in n.accepted.values) valid u c.args.start _
    (omega (arith, c.item_count-count.ensures, c.if-start-count.false)) outside.first
    (omega (arith, outside.within, c.item_count-count.ensures)) in
    let arrays = c.skip_arrays.ensures.passed in
    passes_both u c.args.start _ _ first.from arrays.from (holds s) first arrays

pub returns-clause-counted : goal.returns-clause-counted
returns-clause-counted g c =
    let n = c.self.inside in
    let s = c.args.self.now in
    let u = g.F.Node.Rooted.tree c.args.instance.now in
    let valid : (t : Tree) → is_in n.accepted.values t ≡ true → holds s t ≡ true =
    λ t h. subst (λ r. holds r t ≡ true) c.self.view_is
    (accepts_all n.accepted n.assertions c.self.invariant.1 n.location n.delegates t h) in
    let outside = c.first_outside-first.ensures in
    let first =
    leading_passed s (is_in n.accepted.values) valid u c.args.start _
    (omega (arith, c.item_count-count.ensures, c.if-start-count.false)) outside.first
    (omega (arith, outside.within, c.item_count-count.ensures)) in
    let arrays = c.skip_arrays.ensures in
    let least = passed_least s u c.args.start _ first in
    let both = both_cost u c.args.start _ _ first.from arrays.passed.from (needed s) in
    let counted = c.count_more.ensures in
    record {
      applied = omega (arith, first.from, arrays.passed.from, counted.applied, arrays.counted.applied);
      counted = record {
        from = omega (arith, counted.counted.from, arrays.counted.counted.from);
        to = omega (arith, least, both, counted.counted.to, arrays.counted.counted.to);
      };
    }
