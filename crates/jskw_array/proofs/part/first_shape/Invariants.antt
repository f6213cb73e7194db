use Rattle.std.proofs.Common.{◌≡◌, drop}
use Rattle.jskw_array.specs.Words.{shape_in}
use Rattle.jskw_array.proofs.part.first_shape.Given as goal

abbrev pub invariant-loop-part : goal.invariant-loop-part
invariant-loop-part g l = shape_in l.parts ≡ shape_in (drop l.part-index l.parts)
