-- What checking a document does to a reader and a writer.
use Rattle.std.specs.Prelude.{◌≡◌, ℕ, List, Bool, true, false, Option, None, Result, Err, codes}
use Rattle.std.specs.Io.KnownBytes.{Appends, Consumes, IsAtEnd}
use Rattle.jskw_service.specs.declared.service.Verdict.{Verdict}
use Rattle.jskw_service.specs.declared.service.Verdict.TheVariants.{Refused}
use Rattle.jskw_documents.specs.Documents.{IsAnswer, verdict_on}
use Rattle.jskw_documents.specs.Shown.{lost_text}
use Rattle.jskw_documents.specs.declared.checker.Checker.{Checker}
use Rattle.jskw_documents.specs.declared.fault.CheckFault.{CheckFault}
use Rattle.jskw_documents.specs.declared.fault.CheckFault.TheVariants.{Memory, Read, TooLong, Write}

-- the reader failed
abbrev pub is_read_fault : {A : Type 0} → Result A CheckFault → Bool
is_read_fault (Err Read) = true
is_read_fault r = false

-- the writer failed
abbrev pub is_write_fault : {A : Type 0} → Result A CheckFault → Bool
is_write_fault (Err Write) = true
is_write_fault r = false

-- memory ran out
abbrev pub is_memory_fault : {A : Type 0} → Result A CheckFault → Bool
is_memory_fault (Err Memory) = true
is_memory_fault r = false

-- the reader gave more blocks or lines than can be counted
abbrev pub is_too_long : {A : Type 0} → Result A CheckFault → Bool
is_too_long (Err TooLong) = true
is_too_long r = false

-- the text that displays a fault
abbrev pub check_fault_text : CheckFault → List ℕ
check_fault_text Read = codes "the reader failed"
check_fault_text Write = codes "the writer failed"
check_fault_text Memory = codes "memory ran out"
check_fault_text TooLong = codes "the reader gave 2^64 blocks or lines"

-- all was read, what was to be read having gone from r to s, and the answer to it was written, what was written going
-- from v to w; this is the verdict
pub record AnswersDocument (c : Checker) (file : List ℕ) (said : Verdict) (r s v w : Option (List ℕ)) : Type 0 where
  pub bytes : List ℕ
  pub text : List ℕ
  pub read : Consumes r s bytes
  pub whole : IsAtEnd s
  pub answer : IsAnswer c file None bytes text
  pub says : said ≡ verdict_on c.schema bytes
  pub wrote : Appends v w text

-- memory ran out for the document, and that was written; this is the verdict
pub record LosesDocument (c : Checker) (file : List ℕ) (said : Verdict) (v w : Option (List ℕ)) : Type 0 where
  pub says : said ≡ Refused
  pub wrote : Appends v w (lost_text c.options.output file None)
