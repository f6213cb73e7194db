-- What a run does to a reader and a writer.
use Rattle.std.specs.Prelude.{◌≡◌, ℕ, List, ◌⊎◌, take, Option, Result, Ok, Err}
use Rattle.std.specs.Io.KnownBytes.{Consumes, Appends, IsAtEnd}
use Rattle.jskw_service.specs.Answer.{output, verdict, memory_line}
use Rattle.jskw_service.specs.declared.service.Verdict.{Verdict}
use Rattle.jskw_service.specs.declared.service.Verdict.TheVariants.{Valid, Invalid, Refused}
use Rattle.jskw_service.specs.declared.service.RunFault.{RunFault}

-- the verdict and the text are those of all that the reader gave, whose bytes to come went from before to after
pub record AnswersAll (said : Verdict) (text : List ℕ) (before after : Option (List ℕ)) : Type 0 where
  pub input : List ℕ
  pub read : Consumes before after input
  pub whole : IsAtEnd after
  pub says : said ≡ verdict input
  pub writes : text ≡ output input

-- the text says that memory ran out
pub record RefusesForMemory (said : Verdict) (text : List ℕ) : Type 0 where
  pub says : said ≡ Refused
  pub writes : text ≡ memory_line

-- a verdict and a whole output
abbrev pub IsOutput : Verdict → List ℕ → Option (List ℕ) → Option (List ℕ) → Type 0
IsOutput said text before after = AnswersAll said text before after ⊎ RefusesForMemory said text

-- an output is written, so that what was written went from old to new
pub record Writes (said : Verdict) (before after old new : Option (List ℕ)) : Type 0 where
  pub text : List ℕ
  pub output : IsOutput said text before after
  pub wrote : Appends old new text

-- a beginning of an output is written
pub record WritesBeginning (before after old new : Option (List ℕ)) : Type 0 where
  pub said : Verdict
  pub text : List ℕ
  pub output : IsOutput said text before after
  pub count : ℕ
  pub wrote : Appends old new (take count text)

abbrev pub status_of_verdict : Verdict → ℕ
status_of_verdict Valid = 0
status_of_verdict Invalid = 1
status_of_verdict Refused = 2

abbrev pub status_of : Result Verdict RunFault → ℕ
status_of (Ok said) = status_of_verdict said
status_of (Err fault) = 2
