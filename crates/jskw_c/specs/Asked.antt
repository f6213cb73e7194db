-- What is asked of a handle and an instance in bytes.
use Rattle.std.specs.Prelude.{◌≡◌, ℕ, List, [], Bool, true, false, take, Option, None, Some}
use Rattle.std.specs.Prelude.{Result, Ok, Err}
use Rattle.jskw_value.specs.Pointer.{Pointer}
use Rattle.jskw_value.specs.Tree.{Tree}
use Rattle.jskw_text.specs.Reading.{reading}
use Rattle.jskw_report.specs.Evaluation.{tree}
use Rattle.jskw_report.specs.Fail.{fail}
use Rattle.jskw_report.specs.Holds.{holds}
use Rattle.jskw_report.specs.Keyword.{Schema}
use Rattle.jskw_service.specs.FirstErrors.{first_of}
use Rattle.jskw_c.specs.Evaluated.{evaluation_text}
use Rattle.jskw_c.specs.Line.{AreErrorLines, IsInexactLine, IsPositionLine}
use Rattle.jskw_c.specs.Status.{VALID, INVALID, NOT_JSON, INEXACT, NO_SCHEMA}
use Rattle.jskw_c.specs.declared.ask.Detail.{Detail}
use Rattle.jskw_c.specs.declared.ask.Detail.TheVariants.{FirstError, Errors, Evaluation}

-- ---- the status, which is VALID exactly where the schema holds of the tree that is read from the bytes

abbrev pub verdict_status : Bool → ℕ
verdict_status true = VALID
verdict_status false = INVALID

-- the status of what was read: nothing where the bytes are not JSON, or the location of a number that is not exact
abbrev pub status_of_read : Schema → Option (Result Tree Pointer) → ℕ
status_of_read s None = NOT_JSON
status_of_read s (Some (Err p)) = INEXACT
status_of_read s (Some (Ok t)) = verdict_status (holds s t)

abbrev pub asked_status : Option Schema → List ℕ → ℕ
asked_status None bytes = NO_SCHEMA
asked_status (Some s) bytes = status_of_read s (reading bytes)

-- what was read is a tree, and the schema holds of it exactly where it does of t
abbrev pub ReadsAlike : Schema → Tree → Option (Result Tree Pointer) → Type 0
ReadsAlike s t read = (u : Tree) × (read ≡ Some (Ok u)) × (holds s t ≡ holds s u)

-- ---- the text

-- where a tree is read the text is as `Says` says; else it is the line of the place where the bytes stop being JSON, or
-- of the number that is not exact
abbrev pub IsDetailOf : (Schema → Tree → List ℕ → Type 0) → Schema → List ℕ → Option (Result Tree Pointer) → List ℕ
    → Type 0
IsDetailOf Says s bytes None text = IsPositionLine bytes text
IsDetailOf Says s bytes (Some (Err p)) text = IsInexactLine bytes p text
IsDetailOf Says s bytes (Some (Ok t)) text = Says s t text

abbrev pub IsDetail : (Schema → Tree → List ℕ → Type 0) → Option Schema → List ℕ → List ℕ → Type 0
IsDetail Says None bytes text = text ≡ []
IsDetail Says (Some s) bytes text = IsDetailOf Says s bytes (reading bytes) text

-- a line for each of the first `limit` errors, or for each error if `limit` is 0
abbrev pub SaysErrors : ℕ → Schema → Tree → List ℕ → Type 0
SaysErrors limit s t text = AreErrorLines (first_of limit (fail s t [])) text

-- the line of the first error, if there is one
abbrev pub SaysFirst : Schema → Tree → List ℕ → Type 0
SaysFirst s t text = AreErrorLines (take 1 (fail s t [])) text

-- the evaluation tree
abbrev pub SaysTree : Schema → Tree → List ℕ → Type 0
SaysTree s t text = text ≡ evaluation_text (tree s t [])

-- each of the three
abbrev pub Says : Detail → Schema → Tree → List ℕ → Type 0
Says FirstError = SaysFirst
Says (Errors limit) = SaysErrors limit
Says Evaluation = SaysTree
