-- What is written of a document that was read, by its errors.
use Rattle.std.specs.Prelude.{◌≡◌, ◌&&◌, ℕ, List, [], ◌∷◌, ◌++◌, Bool, codes, length, nat_lt}
use Rattle.std.specs.Prelude.{if◌then◌else◌, Option, None}
use Rattle.jskw_report.specs.Fail.{Failure}
pub use Rattle.jskw_service.specs.FirstErrors.{first_of}
use Rattle.jskw_service.specs.Parts.{HasEach}
use Rattle.jskw_documents.specs.Shown.{IsErrorObject, IsErrorShown, IsLaterObject, more_words}
use Rattle.jskw_documents.specs.Shown.{objects_text, place_members, place_words}
use Rattle.jskw_documents.specs.declared.options.Output.{Output}
use Rattle.jskw_documents.specs.declared.options.Output.TheVariants.{Text, Basic, Quiet}

-- there are more than so many, from 1 to 2^64 - 2; no list has more than 2^64 - 1
abbrev pub is_cut : ℕ → List Failure → Bool
is_cut n fs = nat_lt 0 n && nat_lt n 18446744073709551615 && nat_lt n (length fs)

-- a line for each error, and one that says so if there are more; nothing of a valid document, unless the answer is
-- verbose
abbrev pub IsLineReport : Bool → List ℕ → Option ℕ → Bool → List Failure → List ℕ → Type 0
IsLineReport verbose file line cut [] text =
    text ≡ (if verbose then place_words file line None ++ codes ": valid\n" else [])
IsLineReport verbose file line cut (f ∷ fs) text =
    (lines : List ℕ) × HasEach (IsErrorShown file line) (f ∷ fs) lines
    × (text ≡ lines ++ more_words (place_words file line None) cut)

-- the basic output
abbrev pub IsBasicReport : List ℕ → Option ℕ → Bool → List Failure → List ℕ → Type 0
IsBasicReport file line cut [] text = text ≡ place_members file line None ++ codes ",\"valid\":true}\n"
IsBasicReport file line cut (f ∷ fs) text =
    (first : List ℕ) × (rest : List ℕ) × IsErrorObject line f first × HasEach (IsLaterObject line) fs rest
    × (text ≡ place_members file line None ++ objects_text first rest cut)

abbrev pub IsReportAs : Output → Bool → List ℕ → Option ℕ → Bool → List Failure → List ℕ → Type 0
IsReportAs Text verbose file line cut fs text = IsLineReport verbose file line cut fs text
IsReportAs Basic verbose file line cut fs text = IsBasicReport file line cut fs text
IsReportAs Quiet verbose file line cut fs text = text ≡ []
