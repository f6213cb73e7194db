-- Binary trees with labels, and the code by which a proof tells such trees apart.
use Rattle.std.specs.Prelude.{◌≡◌, refl, List, [], ◌∷◌, get_or, drop, Option, Some, None}
use Rattle.std.specs.Coded.{Coded, code_by, coded_list, coded_option}
use mathlib.Core.Path.{ap, ◌∙◌}

-- a leaf, or a label over two trees
pub data LabelTree (L : Type 0) : Type 0 where
  leaf : LabelTree L
  fork : L → LabelTree L → LabelTree L → LabelTree L

module _ {L : Type 0} where
  -- the steps of the tree, before others: None is a leaf, and a label stands before the steps of its two trees
  abbrev steps : LabelTree L → List (Option L) → List (Option L)
  steps leaf rest = None ∷ rest
  steps (fork l t u) rest = Some l ∷ steps t (steps u rest)

  -- the label over the first two trees, before the others
  abbrev joined : L → List (LabelTree L) → List (LabelTree L)
  joined l ts = fork l (get_or ts 0 leaf) (get_or ts 1 leaf) ∷ drop 2 ts

  -- the trees that have these steps, one after the other
  abbrev built : List (Option L) → List (LabelTree L)
  built [] = []
  built (None ∷ rest) = leaf ∷ built rest
  built (Some l ∷ rest) = joined l (built rest)

  -- the steps of a tree build it
  pub built_steps : (t : LabelTree L) (rest : List (Option L)) → built (steps t rest) ≡ t ∷ built rest
  built_steps leaf rest = refl
  built_steps (fork l t u) rest =
      ap (joined l) (built_steps t (steps u rest) ∙ ap (λ ts. t ∷ ts) (built_steps u rest))

  -- the code of a tree, from the code of a label: that of its steps
  abbrev pub label_tree_code : Coded L → Coded (LabelTree L)
  label_tree_code c =
      code_by (List (Option L)) (coded_list (coded_option c))
      (λ t. steps t []) (λ ss. get_or (built ss) 0 leaf) (λ t. ap (λ ts. get_or ts 0 leaf) (built_steps t []))
