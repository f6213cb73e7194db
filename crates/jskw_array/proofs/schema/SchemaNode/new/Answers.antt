use Rattle.std.proofs.Common.{◌∙◌, refl}
use Rattle.jskw_array.proofs.schema.SchemaNode.new.Goals as goal

pub same-schema : goal.same-schema
same-schema g c = refl

pub invariant_of-result : goal.invariant_of-result
invariant_of-result g c = c.in_ok-location.ensures ∙ c.location.ensures
