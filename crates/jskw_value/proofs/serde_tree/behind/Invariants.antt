use Rattle.std.proofs.Common.{◌≡◌, ◌≤◌, ◌-◌, true, take, length}
use Rattle.std.specs.List.{list_all}
use Rattle.jskw_value.specs.Serde.{value_tree}
use Rattle.jskw_value.specs.Tree.{is_lawful as lawful}
use Rattle.jskw_value.proofs.serde_tree.behind.Given as goal

abbrev pub invariant-loop-index : goal.invariant-loop-index
invariant-loop-index g l =
    (l.index ≤ length l.items) × (list_all (λ v. lawful (value_tree v)) (take l.index l.items) ≡ true)

abbrev pub decreases-loop-index : goal.decreases-loop-index
decreases-loop-index g l = length l.items - l.index
