use Rattle.std.proofs.Common.{◌≡◌, ◌+◌, ◌*◌, ◌++◌, drop, false}
use Rattle.jskw_report.specs.Evaluation.{evaluations}
use Rattle.jskw_report.specs.EvaluationParts.{weight, weights}
use Rattle.jskw_c.specs.Evaluated.{evaluations_text}
use Rattle.jskw_c.proofs.evaluation.+push.Given as goal

abbrev pub decreases-push_node : goal.decreases-push_node
decreases-push_node l = 2 * weight l.node.now

abbrev pub decreases-push_nodes : goal.decreases-push_nodes
decreases-push_nodes l = 2 * weights (evaluations l.nodes.now) + 1

-- what is written, with the nodes that are left
abbrev pub invariant-push_nodes-loop-node : goal.invariant-push_nodes-loop-node
invariant-push_nodes-loop-node l =
    l.text.items ++ evaluations_text l.later (evaluations (drop l.node-index l.nodes))
    ≡ l.initial.text.items ++ evaluations_text false (evaluations l.nodes)
