-- The files that are checked, one behind the other: what is written of each, and the worst verdict.
use Rattle.std.specs.Prelude.{◌≡◌, ◌⊎◌, ℕ, List, [], ◌∷◌, ◌++◌, Bool, true, false, Option, Some, None, ⊤}
use Rattle.jskw_service.specs.declared.service.Verdict.{Verdict}
use Rattle.jskw_service.specs.declared.service.Verdict.TheVariants.{Valid, Refused}
use Rattle.jskw_documents.specs.Documents.{IsAnswered}
use Rattle.jskw_documents.specs.Shown.{refusal_text}
use Rattle.jskw_documents.specs.Streams.{AreAnswers, documents_of, lines_of, worse_of}
use Rattle.jskw_documents.specs.declared.checker.Checker.{Checker}
use Rattle.jskw_documents.specs.declared.options.Output.{Output}

-- ---- the bytes of a file, if they are known

abbrev pub HasBytes : Option (List ℕ) → List ℕ → Type 0
HasBytes None bytes = ⊤
HasBytes (Some known) bytes = known ≡ bytes

abbrev pub BeginsWithBytes : Option (List ℕ) → List ℕ → Type 0
BeginsWithBytes None bytes = ⊤
BeginsWithBytes (Some known) bytes = (rest : List ℕ) × (known ≡ bytes ++ rest)

-- ---- the answers to the bytes of a file: each of its lines is a document, or the file is one

abbrev pub IsFileAnswer : Checker → Bool → List ℕ → List ℕ → List ℕ → Verdict → Type 0
IsFileAnswer c true file bytes text said = AreAnswers c file 1 (documents_of bytes) text Valid said
IsFileAnswer c false file bytes text said = IsAnswered c file None bytes text said

-- those to the lines that were read whole, before the file could not be read on; a document was not
abbrev pub IsBegunAnswer : Checker → Bool → List ℕ → List ℕ → List ℕ → Type 0
IsBegunAnswer c true file bytes text = (worst : Verdict) × AreAnswers c file 1 (lines_of [] bytes) text Valid worst
IsBegunAnswer c false file bytes text = text ≡ []

-- a refusal for some reason, which names no place in the file
abbrev pub IsUnread : Output → List ℕ → List ℕ → Type 0
IsUnread output file text = (why : List ℕ) × (text ≡ refusal_text output file None None None why)

-- ---- one file

-- the file is answered, as one document or line by line
pub record AnswersWhole (c : Checker) (lines : Bool) (file : List ℕ) (known : Option (List ℕ)) (said : Verdict)
    (text : List ℕ) : Type 0 where
  pub bytes : List ℕ
  pub has : HasBytes known bytes
  pub answer : IsFileAnswer c lines file bytes text said

-- these bytes of the file were read, and no more
pub record AnswersPart (c : Checker) (lines : Bool) (file : List ℕ) (known : Option (List ℕ)) (text : List ℕ)
    : Type 0 where
  pub bytes : List ℕ
  pub begins : BeginsWithBytes known bytes
  pub answer : IsBegunAnswer c lines file bytes text

-- the file was not opened, or not read to its end
pub record RefusesFile (c : Checker) (lines : Bool) (file : List ℕ) (known : Option (List ℕ)) (said : Verdict)
    (text : List ℕ) : Type 0 where
  pub begun : List ℕ
  pub refusal : List ℕ
  pub part : AnswersPart c lines file known begun
  pub unread : IsUnread c.options.output file refusal
  pub writes : text ≡ begun ++ refusal
  pub says : said ≡ Refused

abbrev pub AnswersFile : Checker → Bool → List ℕ → Option (List ℕ) → Verdict → List ℕ → Type 0
AnswersFile c lines file known said text =
    AnswersWhole c lines file known said text ⊎ RefusesFile c lines file known said text

-- ---- all files, in order, with the worst verdict

abbrev pub AnswersFiles : Checker → Bool → (List ℕ → Option (List ℕ)) → List (List ℕ) → Verdict → List ℕ → Type 0
AnswersFiles c lines bytes_of [] said text = (said ≡ Valid) × (text ≡ [])
AnswersFiles c lines bytes_of (f ∷ fs) said text =
    (one : Verdict) × (others : Verdict) × (first : List ℕ) × (rest : List ℕ)
    × AnswersFile c lines f (bytes_of f) one first × AnswersFiles c lines bytes_of fs others rest
    × (said ≡ worse_of one others) × (text ≡ first ++ rest)
