use Rattle.std.proofs.Common.{◌∙◌, ap, arith}
use Rattle.std.proofs.lemmas.List.{length-drop}
use Rattle.jskw_array.specs.Words.{drop, in_rest, items, rest_cost}
use Rattle.jskw_array.proofs.AcceptedArrays.{all_leading}
use Rattle.jskw_array.proofs.accepted.ItemSets.rest_count.Goals as goal

pub returns-then-first_outside-count : goal.returns-then-first_outside-count
returns-then-first_outside-count g c =
    let a = c.args.self.now in
    let t = g.N.Rooted.tree c.args.instance.now in
    let ts = drop a.start (items t) in
    let outside = c.first_outside.ensures in
    let size = length-drop a.start (items t) in (
      ap (λ r. in_rest r ts) c.in-Some.is
          ∙ all_leading c.in-Some.set ts
          (omega (arith, outside.first, c.if-first_outside-count.true, c.requires.count, size)),
      omega (arith, ap (λ r. rest_cost r a.start t) c.in-Some.is, c.requires.count),
    )
