use Rattle.std.proofs.Common.{◌∙◌}
use Rattle.jskw_value.specs.Tree.{array}
use Rattle.jskw_number.proofs.Outlines.{outline_with_arrays, outline_without_arrays}
use Rattle.jskw_number.proofs.outline.Outline.of.Goals as goal

pub returns-then-has_arrays : goal.returns-then-has_arrays
returns-then-has_arrays c =
    outline_with_arrays _ c.args.set (λ ts. c.has_arrays.ensures ts ∙ c.if-has_arrays.true)
    (λ ms. c.has_objects-objects.ensures ms)

pub returns-else-has_arrays : goal.returns-else-has_arrays
returns-else-has_arrays c =
    outline_without_arrays _ c.args.set (λ ts. c.none.ensures (array ts)) (λ ms. c.has_objects-objects.ensures ms)
