use Rattle.std.proofs.Common.{◌∙◌, ap, sym}
use Rattle.jskw_array.specs.Words.{is_fused_schema, keywords_in}
use Rattle.jskw_array.proofs.KeywordsOfParts.{lent_begins, lent_is_some}
use Rattle.jskw_array.proofs.node.Subschema.array_shape.Goals as goal

pub returns-clause-fused : goal.returns-clause-fused
returns-clause-fused g c =
    lent_is_some c.first_shape.result _ c.first_shape.ensures ∙ sym (ap is_fused_schema c.in_ok-parts.ensures.1)

pub returns-clause-keywords : goal.returns-clause-keywords
returns-clause-keywords g c =
    lent_begins c.first_shape.result _ c.first_shape.ensures _ _ (ap keywords_in c.in_ok-parts.ensures.1)
    c.in_ok-parts.ensures.2
