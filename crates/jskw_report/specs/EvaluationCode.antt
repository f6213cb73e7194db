-- The code by which a proof tells evaluations apart: nodes are the tree of what they have.
use Rattle.std.specs.Prelude.{ℕ, ◌≡◌, refl, List, [], Bool, true, Option, None, ◌⊎◌}
use Rattle.std.specs.Coded.{Coded, code_by, coded_ℕ, coded_bool, coded_list, coded_option, coded×, coded⊎}
use mathlib.Core.Logic.{inl, inr}
use Rattle.jskw_value.specs.Pointer.{Pointer}
use Rattle.jskw_report.specs.Evaluation.{Annotation, flag, index, indices, Evaluation, node, Evaluations}
use Rattle.jskw_report.specs.Evaluation.{no_evaluations, evaluation}
use Rattle.jskw_report.specs.LabelTree.{LabelTree, leaf, fork, label_tree_code}

-- the code of an annotation
abbrev pub annotation_code : Coded Annotation
annotation_code =
    code_by (Bool ⊎ (ℕ ⊎ List ℕ)) (coded⊎ coded_bool (coded⊎ coded_ℕ (coded_list coded_ℕ)))
    (elim [ flag b ↦ inl b | index i ↦ inr (inl i) | indices is ↦ inr (inr is) ])
    (elim [ inl b ↦ flag b | inr (inl i) ↦ index i | inr (inr is) ↦ indices is ])
    (elim [ flag b ↦ refl | index i ↦ refl | indices is ↦ refl ])

-- a node but for the nodes below
abbrev EvaluationLabel : Type 0
EvaluationLabel = Bool × (Pointer × (Pointer × (Option Annotation × List (List ℕ))))

-- its code
abbrev evaluation_label_code : Coded EvaluationLabel
evaluation_label_code =
    coded× coded_bool (coded× (coded_list coded_ℕ) (coded× (coded_list coded_ℕ)
    (coded× (coded_option annotation_code) (coded_list (coded_list coded_ℕ)))))

-- the tree of the nodes
abbrev tree : Evaluations → LabelTree EvaluationLabel
tree no_evaluations = leaf
tree (evaluation (node valid q p a ds es) more) = fork (valid, (q, (p, (a, ds)))) (tree es) (tree more)

-- the nodes of the tree
abbrev nodes : LabelTree EvaluationLabel → Evaluations
nodes leaf = no_evaluations
nodes (fork l t u) = evaluation (node l.0 l.1.0 l.1.1.0 l.1.1.1.0 l.1.1.1.1 (nodes t)) (nodes u)

-- they are the nodes of their tree
pub nodes_tree : (es : Evaluations) → nodes (tree es) ≡ es
nodes_tree no_evaluations = refl
nodes_tree (evaluation (node valid q p a ds es) more) =
    λ i. evaluation (node valid q p a ds (nodes_tree es i)) (nodes_tree more i)

-- the code of nodes
abbrev pub evaluations_code : Coded Evaluations
evaluations_code = code_by (LabelTree EvaluationLabel) (label_tree_code evaluation_label_code) tree nodes nodes_tree

-- the first node, where there is one
abbrev first : Evaluations → Evaluation
first no_evaluations = node true [] [] None [] no_evaluations
first (evaluation e es) = e

-- the code of a node
abbrev pub evaluation_code : Coded Evaluation
evaluation_code = code_by Evaluations evaluations_code (λ e. evaluation e no_evaluations) first (λ _. refl)
