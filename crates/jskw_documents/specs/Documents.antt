-- The answer to a document: what is written, and the verdict.
use Rattle.std.specs.Prelude.{◌≡◌, ◌≤◌, ℕ, List, [], Bool, true, false, length, Option, Some, None, Result, Ok, Err}
use Rattle.std.specs.Prelude.{◌⊎◌, if◌then◌else◌}
use Rattle.jskw_value.specs.Pointer.{Pointer}
use Rattle.jskw_value.specs.Tree.{Tree}
use Rattle.jskw_text.specs.Position.{line_at, column_at}
use Rattle.jskw_text.specs.ReadFault.{IsBrokenAt}
use Rattle.jskw_text.specs.Reading.{reading}
use Rattle.jskw_report.specs.Fail.{fail}
use Rattle.jskw_report.specs.Holds.{holds}
use Rattle.jskw_report.specs.Keyword.{Schema}
use Rattle.jskw_service.specs.declared.service.Verdict.{Verdict}
use Rattle.jskw_service.specs.declared.service.Verdict.TheVariants.{Valid, Invalid, Refused}
use Rattle.jskw_documents.specs.Reports.{IsReportAs, first_of, is_cut}
use Rattle.jskw_documents.specs.Shown.{lost_text, refusal_text}
use Rattle.jskw_documents.specs.declared.checker.Checker.{Checker}
use Rattle.jskw_documents.specs.declared.options.Output.{Output}
use Rattle.jskw_documents.specs.declared.options.Output.TheVariants.{Quiet}

-- ---- the verdict: that of the tree that is read; refused, if none is

abbrev pub verdict_if : Bool → Verdict
verdict_if true = Valid
verdict_if false = Invalid

abbrev pub verdict_of_read : Schema → Option (Result Tree Pointer) → Verdict
verdict_of_read s None = Refused
verdict_of_read s (Some (Err p)) = Refused
verdict_of_read s (Some (Ok t)) = verdict_if (holds s t)

abbrev pub verdict_on : Schema → List ℕ → Verdict
verdict_on s bytes = verdict_of_read s (reading bytes)

-- ---- how many errors are counted: those that are written of the tree that is read, and of a quiet answer one; none,
-- if no tree is read

abbrev pub errors_of_tree : Output → ℕ → Schema → Tree → ℕ
errors_of_tree Quiet limit s t = if holds s t then 0 else 1
errors_of_tree output limit s t = length (first_of limit (fail s t []))

abbrev pub errors_of_read : Output → ℕ → Schema → Option (Result Tree Pointer) → ℕ
errors_of_read output limit s None = 0
errors_of_read output limit s (Some (Err p)) = 0
errors_of_read output limit s (Some (Ok t)) = errors_of_tree output limit s t

abbrev pub errors_in : Checker → List ℕ → ℕ
errors_in c bytes = errors_of_read c.options.output c.options.limit c.schema (reading bytes)

-- ---- the text

-- the line of the document in its stream, or that of the offset in a file that is one document
abbrev pub line_shown : Option ℕ → ℕ → List ℕ → ℕ
line_shown None offset bytes = line_at offset bytes
line_shown (Some n) offset bytes = n

-- a refusal for some reason, which names the place of this offset
abbrev pub IsRefusalAt : ℕ → Output → List ℕ → Option ℕ → List ℕ → Option (List ℕ) → List ℕ → Type 0
IsRefusalAt offset output file line bytes location text =
    (why : List ℕ) × (text
    ≡ refusal_text output file (Some (line_shown line offset bytes)) (Some (column_at offset bytes)) location why)

-- of a tree that was read: its errors, as many as are written, and whether there are more
abbrev pub IsAnswerToTree : Checker → List ℕ → Option ℕ → Tree → List ℕ → Type 0
IsAnswerToTree c file line t text =
    IsReportAs c.options.output c.options.verbose file line (is_cut c.options.limit (fail c.schema t []))
    (first_of c.options.limit (fail c.schema t [])) text

-- of what was read: nothing where the bytes are not JSON, and the place is where they stop being it; or the location of
-- a number that is not exact, and a place in the document; or a tree
abbrev pub IsAnswerOf : Checker → List ℕ → Option ℕ → List ℕ → Option (Result Tree Pointer) → List ℕ → Type 0
IsAnswerOf c file line bytes None text =
    (offset : ℕ) × IsBrokenAt bytes offset × IsRefusalAt offset c.options.output file line bytes None text
IsAnswerOf c file line bytes (Some (Err p)) text =
    (offset : ℕ) × (offset ≤ length bytes) × IsRefusalAt offset c.options.output file line bytes (Some p) text
IsAnswerOf c file line bytes (Some (Ok t)) text = IsAnswerToTree c file line t text

-- the text is the answer to the document of these bytes
abbrev pub IsAnswer : Checker → List ℕ → Option ℕ → List ℕ → List ℕ → Type 0
IsAnswer c file line bytes text = IsAnswerOf c file line bytes (reading bytes) text

-- the document is answered, or it is refused because memory ran out; and the verdict
abbrev pub IsAnswered : Checker → List ℕ → Option ℕ → List ℕ → List ℕ → Verdict → Type 0
IsAnswered c file line bytes text said =
    (IsAnswer c file line bytes text × (said ≡ verdict_on c.schema bytes))
    ⊎ ((text ≡ lost_text c.options.output file line) × (said ≡ Refused))
