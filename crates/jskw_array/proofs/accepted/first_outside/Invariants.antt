use Rattle.std.proofs.Common.{◌≡◌}
use Rattle.jskw_array.specs.Words.{PassesOver, in_typed, items, length}
use Rattle.jskw_array.proofs.accepted.first_outside.Given as goal

abbrev pub invariant-loop-index : goal.invariant-loop-index
invariant-loop-index g l =
    let t = g.F.Node.Rooted.tree l.instance in
    record {
      last : l.count ≡ length (items t);
      passed : PassesOver (in_typed l.outline l.part) t l.start l.index;
      applied : l.ctx ≡ l.initial.ctx;
    }
