use Rattle.std.proofs.Common.{◌≡◌, drop}
use Rattle.jskw_array.specs.Words.{schemas_delegate, schemas_of}
use Rattle.jskw_array.proofs.each.some_schema_delegates.Given as goal

abbrev pub invariant-loop-node : goal.invariant-loop-node
invariant-loop-node g l =
    schemas_delegate (schemas_of l.nodes) ≡ schemas_delegate (schemas_of (drop l.node-index l.nodes))
