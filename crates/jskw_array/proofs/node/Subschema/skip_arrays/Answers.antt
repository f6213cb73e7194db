use Rattle.std.proofs.Common.{◌∙◌, ap, refl, subst, sym, arith}
use Rattle.std.proofs.lemmas.List.{take_rest}
use Rattle.jskw_array.specs.Words.{ArraysAreValid, IfSome, Knows, drop, holds, in_arrays, in_typed, items_between}
use Rattle.jskw_array.proofs.AcceptedArrays.{arrays_least, arrays_within, schema_arrays, typed_valid}
use Rattle.jskw_array.proofs.PartsLeft.{schema_by_parts}
use Rattle.jskw_array.proofs.PassedItems.{passed_least, passed_length, passes_too}
use Rattle.jskw_array.proofs.node.Subschema.skip_arrays.Goals as goal

pub returns-in-Some-clause-passed : goal.returns-in-Some-clause-passed
returns-in-Some-clause-passed g c =
    let n = c.self.inside in
    let s = c.args.self.now in
    let t = g.F.Node.Rooted.tree c.args.instance.now in
    let us = c.in-Keywords.parts.items in
    let known = (subst (Knows n.accepted) c.in-Keywords.is c.self.invariant.1).0 in
    let is = schema_by_parts c.in-Keywords.is refl c.self.view_is in
    let a = c.deref.result.now in
    let valid =
    subst (ArraysAreValid us) (sym c.deref.ensures)
    (subst (λ o. IfSome o (λ x. ArraysAreValid us x.value)) c.in-Some.is known.arrays) in
    let arrays = schema_arrays s n.location n.delegates us a is valid in
    passes_too (in_arrays a) (holds s) (λ u h. (arrays u h).0) t _ _ c.skip.ensures.passed

pub returns-in-Some-clause-counted : goal.returns-in-Some-clause-counted
returns-in-Some-clause-counted g c =
    let n = c.self.inside in
    let s = c.args.self.now in
    let t = g.F.Node.Rooted.tree c.args.instance.now in
    let us = c.in-Keywords.parts.items in
    let known = (subst (Knows n.accepted) c.in-Keywords.is c.self.invariant.1).0 in
    let is = schema_by_parts c.in-Keywords.is refl c.self.view_is in
    let a = c.deref.result.now in
    let valid =
    subst (ArraysAreValid us) (sym c.deref.ensures)
    (subst (λ o. IfSome o (λ x. ArraysAreValid us x.value)) c.in-Some.is known.arrays) in
    let arrays = schema_arrays s n.location n.delegates us a is valid in
    let passed = c.skip.ensures.passed in
    let counted = c.skip.ensures.counted in
    let ts = items_between c.args.start c.skip.result t in
    let size = passed_length (in_arrays a) t c.args.start _ passed in
    let within = arrays_within s a arrays ts passed.valid in
    record {
      applied = omega (arith, arrays_least a ts, size, counted.applied);
      counted = record { from = counted.counted.from; to = omega (arith, within, counted.counted.to) };
    }

pub returns-in-len1-clause-passed : goal.returns-in-len1-clause-passed
returns-in-len1-clause-passed g c =
    let n = c.self.inside in
    let s = c.args.self.now in
    let t = g.F.Node.Rooted.tree c.args.instance.now in
    let us = c.in-Keywords.parts.items in
    let known = (subst (Knows n.accepted) c.in-Keywords.is c.self.invariant.1).0 in
    let is = schema_by_parts c.in-Keywords.is refl c.self.view_is in
    let b = n.accepted.settled in
    let u = c.part-item.result in
    let rest = take_rest c.deref-2.result.now b.count ∙ ap (drop b.count) c.deref-2.ensures.value in
    let valid =
    typed_valid s n.location n.delegates us _ b u _ is known.settled rest c.in-len1.len_at_least c.in-len1.len_below
    c.part-item.is in
    passes_too (in_typed b.outline u) (holds s) valid t c.args.start _ c.first_outside-end.ensures.passed

pub returns-in-len1-clause-counted : goal.returns-in-len1-clause-counted
returns-in-len1-clause-counted g c =
    let n = c.self.inside in
    let s = c.args.self.now in
    let t = g.F.Node.Rooted.tree c.args.instance.now in
    let us = c.in-Keywords.parts.items in
    let known = (subst (Knows n.accepted) c.in-Keywords.is c.self.invariant.1).0 in
    let is = schema_by_parts c.in-Keywords.is refl c.self.view_is in
    let b = n.accepted.settled in
    let u = c.part-item.result in
    let rest = take_rest c.deref-2.result.now b.count ∙ ap (drop b.count) c.deref-2.ensures.value in
    let valid =
    typed_valid s n.location n.delegates us _ b u _ is known.settled rest c.in-len1.len_at_least c.in-len1.len_below
    c.part-item.is in
    let passed =
    passes_too (in_typed b.outline u) (holds s) valid t c.args.start _ c.first_outside-end.ensures.passed in
    let least = passed_least s t c.args.start _ passed in
    let same = c.first_outside-end.ensures.applied in
    let counted = c.count_more.ensures in
    record {
      applied = omega (arith, same, counted.applied);
      counted = record {
        from = omega (arith, same, counted.counted.from);
        to = omega (arith, least, same, counted.counted.to);
      };
    }
