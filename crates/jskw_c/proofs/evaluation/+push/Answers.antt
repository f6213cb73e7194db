use Rattle.std.proofs.Common.{rules, ap, ◌++◌, ◌∙◌, sym, false}
use Rattle.std.specs.Prelude.{codes}
use Rattle.jskw_report.specs.Evaluation.{annotation_at, evaluations, instance_location_at, is_valid}
use Rattle.jskw_report.specs.Evaluation.{keyword_location_at, keywords_at}
use Rattle.jskw_c.specs.Evaluated.{evaluations_text, unit_text}
use Rattle.jskw_service.proofs.Parts.{four_parts}
use Rattle.jskw_c.proofs.Texts.{text_of_node, weight_in, weight_of_node}
use Rattle.jskw_c.proofs.evaluation.+push.Goals as goal

pub push_node-push_nodes-requires : goal.push_node-push_nodes-requires
push_node-push_nodes-requires t c = search (rules, weight_of_node c.args.node.now)

pub push_node-returns : goal.push_node-returns
push_node-returns t c =
    let n = c.args.node.now in
    let unit =
    unit_text (is_valid n) (keyword_location_at n) (instance_location_at n) (annotation_at n) (keywords_at n) in
    four_parts _ _ _ _ _ _ unit (codes ",\"details\":[") (evaluations_text false (evaluations c.children.result.now))
    (codes "]}") _ c.in_ok-push_part.ensures c.in_ok-push_bytes.ensures
    c.in_ok-push_nodes.ensures c.push_bytes-2.ensures
    (text_of_node n ∙ ap (λ es. unit ++ (codes ",\"details\":[" ++ (evaluations_text false es ++ codes "]}")))
    (sym c.children.ensures.nodes))

pub push_nodes-push_node-requires : goal.push_nodes-push_node-requires
push_nodes-push_node-requires t c =
    let below =
    weight_in c.args.nodes.now c.loop-node.node-index c.node-item.result c.loop-node-test.true c.node-item.is in
    search (rules, below)
