use Rattle.std.proofs.Common.{◌∙◌, ap, sym, ◌++◌}
use Rattle.std.specs.Prelude.{codes}
use Rattle.json.specs.Print.{quoted}
use Rattle.jskw_report.specs.Evaluation.{annotation_at}
use Rattle.jskw_c.specs.Evaluated.{annotation_text, place_text}
use Rattle.jskw_service.proofs.Parts.{four_parts}
use Rattle.jskw_c.proofs.evaluation.push_place.Goals as goal

pub returns : goal.returns
unfolding place_text
returns c =
    let annotation = annotation_text (annotation_at c.args.node.now) in
    let same = c.as_str.ensures ∙ c.instance_location.ensures in
    four_parts _ _ _ _ _ _ (codes ",\"instanceLocation\":") (quoted c.as_str.result.now) (codes ",\"annotation\":")
    annotation _ c.in_ok-push_bytes.ensures c.in_ok-push_string.ensures
    c.in_ok-push_bytes-2.ensures c.push_annotation.ensures
    (ap (λ p. codes ",\"instanceLocation\":" ++ (quoted p ++ (codes ",\"annotation\":" ++ annotation))) (sym same))
