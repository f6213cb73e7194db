-- What the parts of an evaluation of the code stand for, and how many nodes it has.
use Rattle.std.specs.Prelude.{◌≡◌, ℕ, suc, ◌+◌, ◌≤◌, ◌<◌, List, [], ◌∷◌, length, map, slice_index_or}
use Rattle.std.proofs.Common.{arith}
use denote.Param.Weighed.{most}
use Rattle.jskw_report.specs.Evaluation.{Annotation, flag, index, indices, Evaluation, node, Evaluations}
use Rattle.jskw_report.specs.Evaluation.{no_evaluations, evaluation, evaluations}
use Rattle.jskw_report.specs.declared.evaluation.Annotations.{Annotations}
use Rattle.jskw_report.specs.declared.evaluation.Annotations.TheVariants.{Bool, Index, Indices}

-- what an invalid unit says of one error: the name of the keyword that failed, and the text for a reader
pub record Description : Type 0 where
  pub keyword : List ℕ
  pub message : List ℕ

-- the keywords of the descriptions
abbrev pub keywords_of : List Description → List (List ℕ)
keywords_of ds = map (λ d. d.keyword) ds

-- the annotation
abbrev pub annotation_of : Annotations → Annotation
annotation_of (Bool b) = flag b
annotation_of (Index i) = index i
annotation_of (Indices is) = indices is.items

abbrev mutual
  -- the number of nodes of the tree
  pub weight : Evaluation → ℕ
  weight (node valid q p a ds es) = suc (weights es)

  -- the number of nodes of the trees
  pub weights : Evaluations → ℕ
  weights no_evaluations = 0
  weights (evaluation e es) = weight e + weights es

-- no tree has more nodes than all together
pub most_le_weights : (es : List Evaluation) → most (λ e. weight e + 1) es ≤ weights (evaluations es) + 1
most_le_weights [] = omega arith
most_le_weights (e ∷ es) = omega (arith, most_le_weights es)

-- each of the trees has fewer nodes than n
abbrev pub AreSmaller : List Evaluation → ℕ → Type 0
AreSmaller es n = (i : ℕ) (e : Evaluation) → i < length es → e ≡ slice_index_or es i e → weight e < n
