use Rattle.std.proofs.Common.{◌∙◌, ◌++◌, ap, sym}
use Rattle.std.specs.Prelude.{codes}
use Rattle.jskw_value.specs.DecimalTree.{decimal_tree}
use Rattle.jskw_report.specs.Errors.{failure_of}
use Rattle.jskw_documents.specs.Shown.{place_and_message, quoted_after}
use Rattle.jskw_service.proofs.Parts.{three_parts}
use Rattle.jskw_documents.proofs.errors.push_object_of.Goals as goal

pub returns : goal.returns
returns c =
    let f = failure_of decimal_tree c.args.error.now in
    let keyword = c.as_str.ensures ∙ c.schema_path.ensures in
    let instance = c.as_str-2.ensures ∙ c.instance_path.ensures in
    let rest = place_and_message c.args.line c.args.column c.args.message.now in
    three_parts _ _ _ _ _ (quoted_after (codes "{\"keywordLocation\":") c.as_str.result.now)
    (quoted_after (codes ",\"instanceLocation\":") c.as_str-2.result.now) rest _
    c.in_ok-push_quoted_after.ensures c.in_ok-push_quoted_after-2.ensures c.push_place_and_message.ensures
    (ap
    (λ q. quoted_after (codes "{\"keywordLocation\":") q
    ++ (quoted_after (codes ",\"instanceLocation\":") f.instance_location ++ rest)) (sym keyword)
    ∙ ap
    (λ p. quoted_after (codes "{\"keywordLocation\":") c.as_str.result.now
    ++ (quoted_after (codes ",\"instanceLocation\":") p ++ rest)) (sym instance))
