-- The names of reasons, and what they say for people.
use Rattle.std.specs.Prelude.{ℕ, List, codes}
use Rattle.jskw_text.specs.declared.not_json.NotJsonReason.{NotJsonReason}
use Rattle.jskw_text.specs.declared.not_json.NotJsonReason.TheVariants as reason

abbrev pub reason_word : NotJsonReason → List ℕ
reason_word reason.NotUtf8 = codes "notUtf8"
reason_word reason.ByteOrderMark = codes "byteOrderMark"
reason_word reason.EarlyEnd = codes "earlyEnd"
reason_word reason.MoreText = codes "moreText"
reason_word reason.Comma = codes "comma"
reason_word reason.MissingComma = codes "missingComma"
reason_word reason.TrailingComma = codes "trailingComma"
reason_word reason.Colon = codes "colon"
reason_word reason.MissingColon = codes "missingColon"
reason_word reason.Name = codes "name"
reason_word reason.Bracket = codes "bracket"
reason_word reason.Word = codes "word"
reason_word reason.Number = codes "number"
reason_word reason.UnclosedString = codes "unclosedString"
reason_word reason.ControlCharacter = codes "controlCharacter"
reason_word reason.Escape = codes "escape"
reason_word reason.LoneSurrogate = codes "loneSurrogate"
reason_word reason.TooDeep = codes "tooDeep"

abbrev pub reason_sentence : NotJsonReason → List ℕ
reason_sentence reason.NotUtf8 = codes "not JSON: the bytes are not UTF-8"
reason_sentence reason.ByteOrderMark = codes "not JSON: the text begins with a byte order mark"
reason_sentence reason.EarlyEnd = codes "not JSON: the text ends too early"
reason_sentence reason.MoreText = codes "not JSON: there is more behind the value"
reason_sentence reason.Comma = codes "not JSON: a comma where a value should be"
reason_sentence reason.MissingComma = codes "not JSON: a comma is missing"
reason_sentence reason.TrailingComma = codes "not JSON: a comma before the end of an array or object"
reason_sentence reason.Colon = codes "not JSON: a colon where none may be"
reason_sentence reason.MissingColon = codes "not JSON: a colon is missing behind a name"
reason_sentence reason.Name = codes "not JSON: a name must be in double quotes"
reason_sentence reason.Bracket = codes "not JSON: a closing bracket where none may be"
reason_sentence reason.Word = codes "not JSON: a word that is not true, false or null"
reason_sentence reason.Number = codes "not JSON: a number in a form that JSON does not have"
reason_sentence reason.UnclosedString = codes "not JSON: a string without its closing quote"
reason_sentence reason.ControlCharacter = codes "not JSON: a control character in a string"
reason_sentence reason.Escape = codes "not JSON: an escape that JSON does not have"
reason_sentence reason.LoneSurrogate = codes "has the escape of a lone surrogate, which JSON allows and jskw does not"
reason_sentence reason.TooDeep = codes "nests more than 127 levels, which JSON allows and jskw does not"
