-- An evaluation tree as JSON.
use Rattle.std.specs.Prelude.{ℕ, List, [], ◌∷◌, ◌++◌, Bool, true, false, codes, decimal, Option, Some, None}
use Rattle.json.specs.Print.{quoted}
use Rattle.jskw_value.specs.Pointer.{Pointer}
use Rattle.jskw_report.specs.Evaluation.{Annotation, flag, index, indices, Evaluation, node, Evaluations}
use Rattle.jskw_report.specs.Evaluation.{no_evaluations, evaluation}

-- a comma, where an item stands before
abbrev pub comma_if : Bool → List ℕ
comma_if true = codes ","
comma_if false = []

abbrev pub boolean_text : Bool → List ℕ
boolean_text true = codes "true"
boolean_text false = codes "false"

-- the items of an array of numbers
abbrev pub numbers_text : Bool → List ℕ → List ℕ
numbers_text later [] = []
numbers_text later (n ∷ ns) = comma_if later ++ (decimal n ++ numbers_text true ns)

-- the items of an array of strings
abbrev pub strings_text : Bool → List (List ℕ) → List ℕ
strings_text later [] = []
strings_text later (s ∷ ss) = comma_if later ++ (quoted s ++ strings_text true ss)

-- the annotation, `null` where there is none
abbrev pub annotation_text : Option Annotation → List ℕ
annotation_text None = codes "null"
annotation_text (Some (flag b)) = boolean_text b
annotation_text (Some (index i)) = decimal i
annotation_text (Some (indices is)) = codes "[" ++ (numbers_text false is ++ codes "]")

-- ---- an object with six members for each node

-- validity and keyword location
unfoldable pub verdict_text : Bool → Pointer → List ℕ
verdict_text valid q = codes "{\"valid\":" ++ (boolean_text valid ++ (codes ",\"keywordLocation\":" ++ quoted q))

-- instance location and annotation
unfoldable pub place_text : Pointer → Option Annotation → List ℕ
place_text p a = codes ",\"instanceLocation\":" ++ (quoted p ++ (codes ",\"annotation\":" ++ annotation_text a))

-- the keywords of the errors
unfoldable pub errors_text : List (List ℕ) → List ℕ
errors_text ds = codes ",\"errors\":[" ++ (strings_text false ds ++ codes "]")

-- all five
unfoldable pub unit_text : Bool → Pointer → Pointer → Option Annotation → List (List ℕ) → List ℕ
unit_text valid q p a ds = verdict_text valid q ++ (place_text p a ++ errors_text ds)

abbrev mutual
  -- a node, and those below it
  pub evaluation_text : Evaluation → List ℕ
  evaluation_text (node valid q p a ds es) =
      unit_text valid q p a ds ++ (codes ",\"details\":[" ++ (evaluations_text false es ++ codes "]}"))

  -- the items of an array of nodes
  pub evaluations_text : Bool → Evaluations → List ℕ
  evaluations_text later no_evaluations = []
  evaluations_text later (evaluation e es) = comma_if later ++ (evaluation_text e ++ evaluations_text true es)
