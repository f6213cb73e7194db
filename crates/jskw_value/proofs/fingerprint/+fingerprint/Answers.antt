use Rattle.std.proofs.Common.{◌+◌, ◌<◌, ◌&&◌, sym, ap, ◌∙◌, length, take, drop, arith}
use Rattle.std.specs.List.{list_all}
use Rattle.jskw_value.specs.Fingerprint.{stirred, list_fingerprint, is_distinct_within}
use Rattle.jskw_value.specs.Tree.{items}
use Rattle.jskw_value.proofs.Fingerprints.{list_step, all_step}
use Rattle.jskw_value.proofs.fingerprint.+fingerprint.Goals as goal

pub of_array-loop-i-preserved : goal.of_array-loop-i-preserved
of_array-loop-i-preserved g n c =
    let known = c.loop-i.invariant in
    let all = items (g.N.Rooted.tree c.args.node.now) in
    let each = c.share-each.result in
    let i = c.loop-i.i in
    let t = g.N.Rooted.tree c.item.result.now in
    let rest = drop (i + 1) (take c.args.budget all) in
    let within : i < length all = omega (arith, c.loop-i-test.true, known.0) in
    let early : i < c.args.budget = omega (arith, c.loop-i-test.true, known.0) in (
      known.0,
      known.1,
      known.2 ∙ all_step (is_distinct_within each) c.args.budget all i t within early c.item.ensures.value
          ∙ ap (λ b. b && list_all (is_distinct_within each) rest) c.fingerprint_within.ensures.distinct,
      known.3 ∙ list_step c.args.seed each c.loop-i.hash c.args.budget all i t within early c.item.ensures.value
          ∙ ap (λ h. list_fingerprint c.args.seed each h rest) (sym
          (c.stir-hash-in-loop-i.ensures ∙ ap (λ p. stirred c.loop-i.hash p 4) c.fingerprint_within.ensures.value)),
    )
