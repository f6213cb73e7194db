-- The lines of a stream, each of which is a document, and the answers to them.
use Rattle.std.specs.Prelude.{◌≡◌, ℕ, suc, ◌+◌, eqb, List, [], ◌∷◌, ◌++◌, length, if◌then◌else◌, Option, Some, Bool}
use Rattle.std.specs.Prelude.{◌<◌, None, Vec, take, drop, true, false}
use Rattle.std.specs.Io.KnownBytes.{Appends, Consumes, IsAtEnd}
use Rattle.jskw_service.specs.declared.service.Verdict.{Verdict}
use Rattle.jskw_service.specs.declared.service.Verdict.TheVariants.{Valid, Invalid, Refused}
use Rattle.jskw_documents.specs.Documents.{IsAnswered}
use Rattle.jskw_documents.specs.declared.checker.Checker.{Checker}
use Rattle.jskw_documents.specs.declared.lines.Lines.{Lines}

-- ---- lines: those that a line feed ends, behind the bytes of a line that is begun, and the line that is then begun

abbrev pub lines_of : List ℕ → List ℕ → List (List ℕ)
lines_of begun [] = []
lines_of begun (b ∷ bs) = if eqb b 10 then begun ∷ lines_of [] bs else lines_of (begun ++ (b ∷ [])) bs

abbrev pub begun_of : List ℕ → List ℕ → List ℕ
begun_of begun [] = begun
begun_of begun (b ∷ bs) = if eqb b 10 then begun_of [] bs else begun_of (begun ++ (b ∷ [])) bs

-- the last line needs no line feed
abbrev pub last_line_of : List ℕ → List (List ℕ)
last_line_of [] = []
last_line_of (b ∷ bs) = (b ∷ bs) ∷ []

abbrev pub documents_of : List ℕ → List (List ℕ)
documents_of bytes = lines_of [] bytes ++ last_line_of (begun_of [] bytes)

-- no byte is a line feed
abbrev pub is_in_line : List ℕ → Bool
is_in_line [] = true
is_in_line (b ∷ bs) = if eqb b 10 then false else is_in_line bs

-- the offset of the first line feed, if there is one
abbrev pub Ends : List ℕ → Option ℕ → Type 0
Ends bytes None = is_in_line bytes ≡ true
Ends bytes (Some n) =
    (is_in_line (take n bytes) ≡ true) × (bytes ≡ take n bytes ++ (10 ∷ drop (n + 1) bytes)) × (n < length bytes)

-- these bytes are before the first line feed, and these behind it
abbrev pub IsFirstLine : List ℕ → List ℕ → List ℕ → Type 0
IsFirstLine bytes line behind = (is_in_line line ≡ true) × (bytes ≡ line ++ (10 ∷ behind))

-- ---- verdicts

-- the worse of two: refused, invalid, valid
abbrev pub worse_of : Verdict → Verdict → Verdict
worse_of Refused v = Refused
worse_of v Refused = Refused
worse_of Invalid v = Invalid
worse_of v Invalid = Invalid
worse_of Valid Valid = Valid

-- ---- answers

-- the text has the answer to each document, in order; the first is line n; the worst verdict goes from v to w
abbrev pub AreAnswers : Checker → List ℕ → ℕ → List (List ℕ) → List ℕ → Verdict → Verdict → Type 0
AreAnswers c file n [] text v w = (text ≡ []) × (w ≡ v)
AreAnswers c file n (d ∷ ds) text v w =
    (first : List ℕ) × (rest : List ℕ) × (said : Verdict) × (text ≡ first ++ rest)
    × IsAnswered c file (Some n) d first said × AreAnswers c file (suc n) ds rest (worse_of v said) w

-- what is kept of a line that is begun: its bytes, or nothing, if memory ran out for them
abbrev pub IsKept : {A : Type 0} → Option (Vec ℕ A) → List ℕ → Type 0
IsKept (Some kept) line = kept.items ≡ line
IsKept None line = 0 < length line

-- bytes were taken behind those of a line that is begun, so that the lines that they end are answered by the text
pub record Takes (c : Checker) (file line : List ℕ) (before : Lines) (bytes text : List ℕ) (after : Lines)
    : Type 0 where
  pub answers : AreAnswers c file before.next (lines_of line bytes) text before.verdict after.verdict
  pub next : after.next ≡ before.next + length (lines_of line bytes)
  pub begun : IsKept after.begun (begun_of line bytes)

-- what is ready, and the text behind it, is written up to what is ready then
abbrev pub Told : Option (List ℕ) → List ℕ → Option (List ℕ) → List ℕ → List ℕ → Type 0
Told v before w after text = (out : List ℕ) × Appends v w out × (out ++ after ≡ before ++ text)

-- the next line, which is this document, is answered
pub record AnswersNext (c : Checker) (file document : List ℕ) (before after : Lines) (v : Option (List ℕ)) (x : List ℕ)
    (w : Option (List ℕ)) (y : List ℕ) : Type 0 where
  pub answer : List ℕ
  pub said : Verdict
  pub answers : IsAnswered c file (Some before.next) document answer said
  pub next : after.next ≡ before.next + 1
  pub verdict : after.verdict ≡ worse_of before.verdict said
  pub told : Told v x w y answer

-- some bytes were read and taken, and the text was written: what there is to read went from r to s, and what was
-- written from v to w
pub record Moves (c : Checker) (file line : List ℕ) (before after : Lines) (r s v w : Option (List ℕ)) : Type 0 where
  pub bytes : List ℕ
  pub text : List ℕ
  pub read : Consumes r s bytes
  pub takes : Takes c file line before bytes text after
  pub wrote : Appends v w text

-- all was read, and the answers to its documents were written; this is the worst verdict
pub record AnswersLines (c : Checker) (file : List ℕ) (said : Verdict) (r s v w : Option (List ℕ)) : Type 0 where
  pub bytes : List ℕ
  pub text : List ℕ
  pub read : Consumes r s bytes
  pub whole : IsAtEnd s
  pub answers : AreAnswers c file 1 (documents_of bytes) text Valid said
  pub wrote : Appends v w text

-- lines were read, and the answers to them were written
pub record AnswersBegun (c : Checker) (file : List ℕ) (r s v w : Option (List ℕ)) : Type 0 where
  pub bytes : List ℕ
  pub text : List ℕ
  pub worst : Verdict
  pub read : Consumes r s bytes
  pub answers : AreAnswers c file 1 (lines_of [] bytes) text Valid worst
  pub wrote : Appends v w text
