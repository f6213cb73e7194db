-- What the program writes for a command, and its exit status.
use Rattle.std.specs.Prelude.{◌≡◌, ◌⊎◌, ℕ, List, [], ◌++◌, Bool, true, false, codes, Option, Some, None, Result, Err}
use Rattle.std.specs.Io.KnownBytes.{Appends}
use Rattle.jskw_report.specs.Keyword.{Schema}
use Rattle.jskw_service.specs.Run.{status_of_verdict}
use Rattle.jskw_service.specs.declared.service.Verdict.{Verdict}
use Rattle.jskw_documents.specs.Files.{AnswersFiles, HasBytes}
use Rattle.jskw_documents.specs.Schemas.{schema_given}
use Rattle.jskw_documents.specs.Shown.{refusal_text, shown}
use Rattle.jskw_documents.specs.declared.options.Output.TheVariants.{Text}
use Rattle.jskw_check.specs.Commands.{Asked, Command, check, help, version, wrong}
use Rattle.jskw_check.specs.declared.usage.TheConstants.{HELP, USAGE}
use Rattle.jskw_check.specs.declared.trouble.Trouble.{Trouble}
use Rattle.jskw_check.specs.declared.trouble.Trouble.TheVariants.{Output, TooLong}

-- ---- texts

-- those of this release
abbrev pub version_line : List ℕ
version_line = codes "jskw 0.3.0 (rattle logic dac8208d650f15bf)\n"

abbrev pub usage_error : List ℕ → List ℕ
usage_error why = USAGE.now ++ (codes "jskw check: error: " ++ (shown why ++ codes "\n"))

abbrev pub schema_unread : List ℕ → List ℕ → List ℕ
schema_unread file why = refusal_text Text file None None (Some (codes "the schema")) why

-- ---- a schema and files: the status, what is written on standard output, and what on standard error

-- the file of the schema cannot be read, for some reason
pub record SchemaUnread (a : Asked) (status : ℕ) (out told : List ℕ) : Type 0 where
  pub why : List ℕ
  pub is : status ≡ 2
  pub writes : out ≡ []
  pub tells : told ≡ schema_unread a.schema why

-- it has no schema that documents may be checked against; some words say why
pub record SchemaRefused (bytes_of : List ℕ → Option (List ℕ)) (a : Asked) (status : ℕ) (out : List ℕ) : Type 0 where
  pub bytes : List ℕ
  pub has : HasBytes (bytes_of a.schema) bytes
  pub none : schema_given a.how bytes ≡ None
  pub is : status ≡ 2
  pub writes : out ≡ []

-- the answers to all files, in order; the status is that of the worst verdict
pub record ChecksFiles (bytes_of : List ℕ → Option (List ℕ)) (a : Asked) (status : ℕ) (out told : List ℕ)
    : Type 0 where
  pub bytes : List ℕ
  pub has : HasBytes (bytes_of a.schema) bytes
  pub schema : Schema
  pub given : schema_given a.how bytes ≡ Some schema
  pub said : Verdict
  pub answers : AnswersFiles (record { schema = schema; options = a.options }) a.lines bytes_of a.files said out
  pub is : status ≡ status_of_verdict said
  pub tells : told ≡ []

-- ---- a command

abbrev pub Does : (List ℕ → Option (List ℕ)) → Command → ℕ → List ℕ → List ℕ → Type 0
Does bytes_of help status out told = (status ≡ 0) × (out ≡ HELP.now) × (told ≡ [])
Does bytes_of version status out told = (status ≡ 0) × (out ≡ version_line) × (told ≡ [])
Does bytes_of (wrong why) status out told = (status ≡ 2) × (out ≡ []) × (told ≡ usage_error why)
Does bytes_of (check a) status out told =
    SchemaUnread a status out told ⊎ SchemaRefused bytes_of a status out ⊎ ChecksFiles bytes_of a status out told

-- ---- devices

-- what was written to a device went from x to y by the text, unless the device failed
abbrev pub Tells : Bool → Option (List ℕ) → Option (List ℕ) → List ℕ → Type 0
Tells failed x y text = failed ≡ false → Appends x y text

-- what was written on standard output went from v to w, and on standard error from x to y, unless that failed
pub record Runs (bytes_of : List ℕ → Option (List ℕ)) (c : Command) (status : ℕ) (v w : Option (List ℕ)) (failed : Bool)
    (x y : Option (List ℕ)) : Type 0 where
  pub out : List ℕ
  pub told : List ℕ
  pub does : Does bytes_of c status out told
  pub wrote : Appends v w out
  pub tells : Tells failed x y told

-- standard output failed
abbrev pub is_output_trouble : {A : Type 0} → Result A Trouble → Bool
is_output_trouble (Err Output) = true
is_output_trouble r = false

-- a file has more blocks or lines than can be counted
abbrev pub is_length_trouble : {A : Type 0} → Result A Trouble → Bool
is_length_trouble (Err TooLong) = true
is_length_trouble r = false

-- each line of a file is a document
abbrev pub asks_for_lines : Command → Bool
asks_for_lines (check a) = a.lines
asks_for_lines c = false
