use Rattle.std.proofs.Common.{◌+◌, ◌<◌, ◌∙◌, length, arith, length-set}
use Rattle.jskw_value.specs.Tree.{items}
use Rattle.jskw_value.proofs.SortedFingerprints.{next_key}
use Rattle.jskw_value.proofs.unique_by_fingerprints.write_keys.Goals as goal

pub loop-i-preserved : goal.loop-i-preserved
loop-i-preserved g c =
    let known = c.loop-i.invariant in
    let all = items (g.N.Rooted.tree c.args.array.now) in
    let i = c.loop-i.i in
    let room : i < length c.loop-i.keys = omega arith in
    let within : c.args.start + i < length all = omega (arith, room, known.0) in (
      length-set c.loop-i.keys i c.key.result ∙ known.0,
      next_key c.args.seed c.args.doubtful.now c.args.start i c.key.result c.loop-i.keys all
          (g.N.Rooted.tree c.item.result.now)
          c.key.ensures.value room within c.item.ensures.value c.key.ensures.distinct known.1,
    )
