-- The nodes below a node are in trees of fewer nodes.
use Rattle.std.proofs.Common.{◌≡◌, ℕ, zero, suc, ◌<◌, ◌≤◌, List, [], ◌∷◌, length, slice_index_or, ap, arith}
use Rattle.jskw_report.specs.Evaluation.{Evaluation, node, evaluations, children_at}
use Rattle.jskw_report.specs.EvaluationParts.{AreSmaller, weight, weights}

-- a tree has no more nodes than all trees of the list
weight_at : (es : List Evaluation) (i : ℕ) (e : Evaluation) → i < length es → e ≡ slice_index_or es i e
    → weight e ≤ weights (evaluations es)
weight_at [] i e h at = absurd (omega (arith, h))
weight_at (x ∷ es) zero e h at = omega (arith, ap weight at)
weight_at (x ∷ es) (suc i) e h at =
    let below : weight e ≤ weights (evaluations es) = weight_at es i e (omega (arith, h)) at in
    omega (arith, below)

-- so each has fewer than the node that has them below it
pub are_smaller : (n : Evaluation) (es : List Evaluation) → evaluations es ≡ children_at n → AreSmaller es (weight n)
are_smaller (node valid q p a ds below) es all i e h at =
    let least = weight_at es i e h at in
    omega (arith, least, ap weights all)
