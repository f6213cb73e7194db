-- Lines of words, with a tab between two words and a line feed at the end.
use Rattle.std.specs.Prelude.{◌≡◌, ℕ, List, [], ◌∷◌, codes, decimal, eqb, flat_map, map}
use Rattle.std.specs.Prelude.{if◌then◌else◌}
use Rattle.jskw_value.specs.Pointer.{Pointer}
use Rattle.jskw_text.specs.NotJsonReason.{reason_sentence, reason_word}
use Rattle.jskw_text.specs.Position.{IsPlaceIn}
use Rattle.jskw_text.specs.ReadFault.{IsBrokenAt}
use Rattle.jskw_text.specs.declared.not_json.NotJsonReason.{NotJsonReason}
use Rattle.jskw_text.specs.declared.position.Position.{Position}
use Rattle.jskw_report.specs.Fail.{Failure}
use Rattle.jskw_report.specs.KeywordValue.{Refusal}
use Rattle.jskw_report.specs.Kind.{keyword_of}
use Rattle.jskw_service.specs.Answer.{line}
use Rattle.jskw_service.specs.Parts.{HasEach}
use Rattle.jskw_c.specs.Expected.{IsExpected}

-- a byte of a word: a tab, a line feed or a backslash is two bytes, so that a line has as many words as were written
abbrev pub escaped_byte : ℕ → List ℕ
escaped_byte b =
    if eqb b 9 then codes "\\t"
    else (if eqb b 10 then codes "\\n"
    else (if eqb b 92 then codes "\\\\"
    else (b ∷ [])))

-- a word, byte by byte
abbrev pub escaped : List ℕ → List ℕ
escaped = flat_map escaped_byte

-- the line of these words
abbrev pub words_line : List (List ℕ) → List ℕ
words_line words = line (map escaped words)

-- the line of a place in a text and of why it is refused there: the offset in bytes, the line, the column, and the
-- reason as a word and as a sentence
abbrev pub position_line : Position → NotJsonReason → List ℕ
position_line at reason =
    line (decimal at.offset ∷ decimal at.line ∷ decimal at.column ∷ reason_word reason ∷ reason_sentence reason ∷ [])

-- the text is the line of the place where the bytes stop being JSON, with a reason
abbrev pub IsPositionLine : List ℕ → List ℕ → Type 0
IsPositionLine bytes text = (at : Position) × (reason : NotJsonReason) × IsBrokenAt bytes at.offset × IsPlaceIn bytes at
    × (text ≡ position_line at reason)

-- the line of a number that is not exact: its location, and its place in the text
abbrev pub inexact_line : Pointer → Position → List ℕ
inexact_line p at = line (escaped p ∷ decimal at.offset ∷ decimal at.line ∷ decimal at.column ∷ [])

-- the text is the line of a number at this location, with a place in the bytes
abbrev pub IsInexactLine : List ℕ → Pointer → List ℕ → Type 0
IsInexactLine bytes p text = (at : Position) × IsPlaceIn bytes at × (text ≡ inexact_line p at)

-- the text is the line of an error: its keyword, instance location, keyword location, some message, and what was
-- expected
abbrev pub IsErrorLine : Failure → List ℕ → Type 0
IsErrorLine f text = (message : List ℕ) × (expected : List ℕ) × IsExpected f.kind expected
    × (text ≡ words_line (keyword_of f.kind ∷ f.instance_location ∷ f.keyword_location ∷ message ∷ expected ∷ []))

-- the text has the line of each error, in order
abbrev pub AreErrorLines : List Failure → List ℕ → Type 0
AreErrorLines = HasEach IsErrorLine

-- the text is the line of a refusal: its keyword, keyword location, some message, and what was expected
abbrev pub IsRefusalLine : Refusal → List ℕ → Type 0
IsRefusalLine e text = (message : List ℕ) × (expected : List ℕ) × IsExpected e.kind expected
    × (text ≡ words_line (keyword_of e.kind ∷ e.location ∷ message ∷ expected ∷ []))
