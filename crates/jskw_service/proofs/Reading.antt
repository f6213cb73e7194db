-- What is read of bytes that may be no text.
use Rattle.std.proofs.Common.{◌≡◌, List, ℕ, Bool, true, false, Option, None, refl, ap, ◌∙◌, IsUtf8, cond}
use Rattle.std.specs.Str.{is_utf8}
use Rattle.std.proofs.lemmas.Str.{IsUtf8-from_is_utf8, is_utf8-from_IsUtf8}
use Rattle.serde_json.specs.Data.{Data}
use Rattle.serde_json.specs.Read.{read as read_text}
use Rattle.jskw_service.specs.Request.{value_of}

pub value_of-text : (bytes : List ℕ) (d : Option Data) → IsUtf8 bytes → read_text bytes ≡ d → value_of bytes ≡ d
value_of-text bytes d utf8 e = ap (λ b. cond b (read_text bytes) None) (is_utf8-from_IsUtf8 bytes utf8) ∙ e

chosen : (b : Bool) (found : Option Data) → (b ≡ true → found ≡ None) → cond b found None ≡ None
chosen true found h = h refl
chosen false found h = refl

pub value_of-none : (bytes : List ℕ) → (IsUtf8 bytes → read_text bytes ≡ None) → value_of bytes ≡ None
value_of-none bytes h = chosen (is_utf8 bytes) (read_text bytes) (λ e. h (IsUtf8-from_is_utf8 bytes e))
