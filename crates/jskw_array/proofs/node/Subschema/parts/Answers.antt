use Rattle.std.proofs.Common.{◌∙◌, ap, sym}
use Rattle.jskw_array.specs.Words.{keywords_of, marked, schema_location, schema_object}
use Rattle.jskw_array.proofs.PartsLeft.{known_parts, schema_by_parts}
use Rattle.jskw_array.proofs.node.Subschema.parts.Goals as goal

pub returns-in-Keywords : goal.returns-in-Keywords
returns-in-Keywords g c =
    let n = c.self.inside in
    let us = c.as_slice.result.now in
    let value = c.as_slice.ensures.value in
    let is = schema_by_parts c.in-Keywords.is value c.self.view_is in (
      n.delegates,
      is ∙ ap (λ q. schema_object q (marked n.delegates us) (keywords_of us)) (sym (ap schema_location is)),
      (known_parts c.in-Keywords.is value n.accepted c.self.invariant.1).1,
    )
