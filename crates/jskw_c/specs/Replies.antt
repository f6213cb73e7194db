-- What the functions behind the exports return.
use Rattle.std.specs.Prelude.{◌≡◌, ℕ, List, Some, Result, Ok, Err}
use Rattle.jskw_value.specs.Tree.{Tree}
use Rattle.jskw_report.specs.Holds.{holds}
use Rattle.jskw_report.specs.Keyword.{Schema}
use Rattle.jskw_c.specs.Asked.{IsDetail, asked_status, verdict_status}
use Rattle.jskw_c.specs.Compiled.{Fault, IsTextOf}
use Rattle.jskw_c.specs.Compiled as compiled
use Rattle.jskw_c.specs.declared.ask.Outcome.{Outcome}

-- this status, and such a text
pub record IsOutcome (status : ℕ) (IsText : List ℕ → Type 0) (outcome : Outcome) : Type 0 where
  pub status_is : outcome.status ≡ status
  pub text_is : IsText outcome.text.items

-- the status and the text of a schema that is asked of a tree
abbrev pub IsOutcomeOnTree : (Schema → Tree → List ℕ → Type 0) → Schema → Tree → Outcome → Type 0
IsOutcomeOnTree Says s t outcome = IsOutcome (verdict_status (holds s t)) (Says s t) outcome

-- the same of an instance in bytes
abbrev pub IsOutcomeOnBytes : (Schema → Tree → List ℕ → Type 0) → Schema → List ℕ → Outcome → Type 0
IsOutcomeOnBytes Says s bytes outcome = IsOutcome (asked_status (Some s) bytes) (IsDetail Says (Some s) bytes) outcome

-- the status and the text of a compile that failed
abbrev pub IsFault : Fault → Outcome → Type 0
IsFault f outcome = IsOutcome (compiled.fault_status f) (IsTextOf f) outcome

-- what was made is the schema, or the outcome says why there is none
abbrev pub CompilesBytes : {A : Type 0} → (A → Schema) → Result A Outcome → Result Schema Fault → Type 0
CompilesBytes value (Ok a) (Ok s) = value a ≡ s
CompilesBytes value (Err outcome) (Err f) = IsFault f outcome
CompilesBytes value _ _ = ⊥
