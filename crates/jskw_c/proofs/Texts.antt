-- Texts and sizes of evaluation trees, part by part.
use Rattle.std.proofs.Common.{◌≡◌, ℕ, zero, suc, ◌<◌, ◌≤◌, List, [], ◌∷◌, ◌++◌, false, length, get_or, ap}
use Rattle.std.proofs.Common.{arith, refl}
use Rattle.std.specs.Prelude.{codes}
use Rattle.jskw_report.specs.Evaluation.{Evaluation, node, evaluations, annotation_at, children_at}
use Rattle.jskw_report.specs.Evaluation.{instance_location_at, is_valid, keyword_location_at, keywords_at}
use Rattle.jskw_report.specs.EvaluationParts.{weight, weights}
use Rattle.jskw_c.specs.Evaluated.{evaluation_text, evaluations_text, unit_text}

-- the text of a node
pub text_of_node : (e : Evaluation) → evaluation_text e
    ≡ unit_text (is_valid e) (keyword_location_at e) (instance_location_at e) (annotation_at e) (keywords_at e)
    ++ (codes ",\"details\":[" ++ (evaluations_text false (children_at e) ++ codes "]}"))
text_of_node (node valid q p a ds es) = refl

-- the nodes below it are fewer
pub weight_of_node : (e : Evaluation) → weight e ≡ suc (weights (children_at e))
weight_of_node (node valid q p a ds es) = refl

-- a list of trees has no fewer nodes than each of them
pub weight_in : (es : List Evaluation) (i : ℕ) (e : Evaluation) → i < length es → e ≡ get_or es i e
    → weight e ≤ weights (evaluations es)
weight_in [] i e within is = absurd (omega arith)
weight_in (x ∷ es) zero e within is = let same = ap weight is in omega arith
weight_in (x ∷ es) (suc i) e within is = let below = weight_in es i e (omega arith) is in omega arith
