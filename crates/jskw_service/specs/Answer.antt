-- What is answered to a request, and how it is written.
use Rattle.std.specs.Prelude.{ℕ, List, [], ◌∷◌, ◌++◌, codes, false, Option, Some, None, Ok, Err}
use Rattle.jskw_value.specs.FirstFloat.{first_float}
use Rattle.jskw_value.specs.Pointer.{Pointer}
use Rattle.jskw_value.specs.Serde.{tree_of}
use Rattle.jskw_value.specs.Tree.{Tree}
use Rattle.serde_json.specs.Data.{Data}
use Rattle.jskw_report.specs.Fail.{Failure, fail}
use Rattle.jskw_report.specs.Keyword.{Schema}
use Rattle.jskw_report.specs.KeywordValue.{Refusal}
use Rattle.jskw_report.specs.Kind.{keyword_of}
use Rattle.jskw_report.specs.Read.{Reading, read}
use Rattle.jskw_report.specs.Setting.{with_object_layer}
use Rattle.jskw_service.specs.Request.{Request, request_in}
use Rattle.jskw_service.specs.declared.service.Verdict.{Verdict}
use Rattle.jskw_service.specs.declared.service.Verdict.TheVariants.{Valid, Invalid, Refused}

pub data Answer : Type 0 where
  -- the input is no request
  no_request : Answer
  -- the schema does not compile
  bad_schema : Refusal → Answer
  -- the instance holds a float, first at this location
  float_at : Pointer → Answer
  -- the errors of the instance, none where it is valid
  errors : List Failure → Answer

abbrev judged : Reading → Option Pointer → Tree → Answer
judged (Err e) found t = bad_schema e
judged (Ok s) (Some p) t = float_at p
judged (Ok s) None t = errors (fail s t [])

-- an instance under a schema that compiled
abbrev pub answer_to : Schema → Data → Answer
answer_to s d = judged (Ok s) (first_float (tree_of d)) (tree_of d)

-- the schema first, which is read without an object layer, then the floats of the instance, then its errors
abbrev pub answer : Option Request → Answer
answer None = no_request
answer (Some r) =
    judged (read r.schema (with_object_layer false r.setting) []) (first_float (tree_of r.instance))
    (tree_of r.instance)

abbrev pub verdict_of : Answer → Verdict
verdict_of (errors []) = Valid
verdict_of (errors (f ∷ fs)) = Invalid
verdict_of _ = Refused

-- ---- as text: a tab between two words of a line, and a line feed behind it

abbrev pub line : List (List ℕ) → List ℕ
line [] = codes "\n"
line (w ∷ []) = w ++ codes "\n"
line (w ∷ x ∷ ws) = w ++ (codes "\t" ++ line (x ∷ ws))

-- the keyword, the instance location and the keyword location of each error
abbrev pub error_lines : List Failure → List ℕ
error_lines [] = []
error_lines (f ∷ fs) = line (keyword_of f.kind ∷ f.instance_location ∷ f.keyword_location ∷ []) ++ error_lines fs

abbrev pub output_of : Answer → List ℕ
output_of no_request = line (codes "refused: request" ∷ [])
output_of (bad_schema e) = line (codes "refused: schema" ∷ keyword_of e.kind ∷ e.location ∷ [])
output_of (float_at p) = line (codes "refused: float" ∷ p ∷ [])
output_of (errors []) = line (codes "valid" ∷ [])
output_of (errors (f ∷ fs)) = error_lines (f ∷ fs)

-- what is written if memory runs out
abbrev pub memory_line : List ℕ
memory_line = line (codes "refused: memory" ∷ [])

-- ---- of the whole input

abbrev pub output : List ℕ → List ℕ
output bytes = output_of (answer (request_in bytes))

abbrev pub verdict : List ℕ → Verdict
verdict bytes = verdict_of (answer (request_in bytes))
