use Rattle.std.proofs.Common.{◌≤◌, ◌<◌, length, arith, rules}
use Rattle.jskw_value.specs.Tree.{items}
use Rattle.jskw_value.proofs.SortedFingerprints.{all_new, next_new, next_other}
use Rattle.jskw_value.proofs.unique_by_fingerprints.differ_from_later.Goals as goal

pub loop-i-preserved : goal.loop-i-preserved
loop-i-preserved g c =
    let known = c.loop-i.invariant in
    let start = c.args.start in
    let end = c.args.end in
    let all = items (g.N.Rooted.tree c.args.array.now) in
    let i = c.loop-i.i in
    let within : i < length all = omega (arith, known.0) in
    elim c.else-may_be_among.branch [
      | goal.else-may_be_among-via-then-may_be_among+in_ok-differs_from+else-not-branch w ↦
          (known.0, next_new start end end i end all (omega arith) (w.differs_from.ensures.new (search rules)) known.1)
      | goal.else-may_be_among-via-else-may_be_among w ↦ (
        known.0,
        next_other c.args.seed c.args.doubtful.now start end i c.key.result c.args.keys.now all
            (g.N.Rooted.tree c.item.result.now)
            c.requires.keys c.requires.room within c.item.ensures.value c.key.ensures.value c.key.ensures.distinct
            (c.may_be_among.ensures w.if-may_be_among.false) known.1,
      )
    ]

pub returns-clause-new : goal.returns-clause-new
returns-clause-new g c h =
    let known = c.loop-i.invariant in
    let all = items (g.N.Rooted.tree c.args.array.now) in
    let behind : length all ≤ c.loop-i.i = omega (arith, known.0) in
    all_new c.args.start c.args.end c.args.end c.loop-i.i (length all) all behind known.1
