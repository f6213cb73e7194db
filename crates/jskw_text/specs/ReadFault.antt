-- What a fault says of the bytes, and how it is displayed.
use Rattle.std.specs.Prelude.{◌≡◌, ◌≤◌, ◌++◌, ℕ, List, length, None, Some, Err, codes, decimal, false, string_bytes, ⊤}
use Rattle.std.specs.Str.{is_utf8, IsValidUpTo}
use Rattle.jskw_text.specs.Position.{IsPlaceIn}
use Rattle.jskw_text.specs.Reading.{reading}
use Rattle.jskw_text.specs.NotJsonReason.{reason_sentence}
use Rattle.jskw_text.specs.declared.fault.ReadFault.{ReadFault}
use Rattle.jskw_text.specs.declared.fault.ReadFault.TheVariants.{NotJson, Inexact, Memory}

-- the bytes are no JSON text, and the offset is none behind them; if they are not UTF-8, it is the length of the
-- longest beginning that is
pub record IsBrokenAt (bytes : List ℕ) (offset : ℕ) : Type 0 where
  pub unread : reading bytes ≡ None
  pub within : offset ≤ length bytes
  pub utf8 : is_utf8 bytes ≡ false → IsValidUpTo bytes offset

-- the bytes are no JSON text; or they are, and the location is that of their first number that is no decimal; with a
-- place in them
abbrev pub IsFaultOf : List ℕ → ReadFault → Type 0
IsFaultOf bytes (NotJson reason at) = IsBrokenAt bytes at.offset × IsPlaceIn bytes at
IsFaultOf bytes (Inexact l at) = (reading bytes ≡ Some (Err (string_bytes l))) × IsPlaceIn bytes at
IsFaultOf bytes (Memory e) = ⊤

-- the text that displays a fault
abbrev pub fault_text : ReadFault → List ℕ
fault_text (NotJson reason at) =
    reason_sentence reason ++ (codes " at line " ++ (decimal at.line ++ (codes ", column " ++ decimal at.column)))
fault_text (Inexact l at) = codes "the number at \"" ++ string_bytes l ++ codes "\" is not exact"
fault_text (Memory e) = codes "memory ran out"
