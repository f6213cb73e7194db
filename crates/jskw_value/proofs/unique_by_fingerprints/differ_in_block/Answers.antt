use Rattle.std.proofs.Common.{◌≤◌, ◌<◌, arith, rules}
use Rattle.jskw_value.specs.Tree.{items}
use Rattle.jskw_value.proofs.SortedFingerprints.{all_new, next_new, next_once, rising_new}
use Rattle.jskw_value.proofs.unique_by_fingerprints.differ_in_block.Goals as goal

pub returns-then-rises-clause-new : goal.returns-then-rises-clause-new
returns-then-rises-clause-new g c h =
    rising_new c.args.seed c.args.doubtful.now c.args.start c.args.end c.args.keys.now
    (items (g.N.Rooted.tree c.args.array.now)) c.requires.keys c.requires.room
    (c.rises.ensures c.if-rises.true)

pub loop-i-preserved : goal.loop-i-preserved
loop-i-preserved g c =
    let start = c.args.start in
    let end = c.args.end in
    let all = items (g.N.Rooted.tree c.args.array.now) in
    let i = c.loop-i.i in
    let within : i < end = omega arith in
    elim c.else-is_repeated.branch [
      | goal.else-is_repeated-via-then-is_repeated+in_ok-differs_from+else-not-branch w ↦
          next_new start end start i i all
          (omega arith) (w.differs_from.ensures.new (search rules)) c.loop-i.invariant
      | goal.else-is_repeated-via-else-is_repeated w ↦
          next_once c.args.seed c.args.doubtful.now start end i c.key.result
          c.args.keys.now all (g.N.Rooted.tree c.item.result.now)
          c.requires.keys c.requires.room within c.requires.end c.item.ensures.value c.key.ensures.value
          (c.is_repeated.ensures w.if-is_repeated.false) c.loop-i.invariant
    ]

pub returns-clause-new : goal.returns-clause-new
returns-clause-new g c h =
    let behind : c.args.end ≤ c.loop-i.i = omega arith in
    all_new c.args.start c.args.end c.args.start c.loop-i.i c.args.end (items (g.N.Rooted.tree c.args.array.now)) behind
    c.loop-i.invariant
