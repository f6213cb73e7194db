-- The lines of bytes are those of the text that they are, or none.
use Rattle.std.proofs.Common.{◌≡◌, ◌∙◌, List, ℕ, [], Bool, true, false, IsUtf8, ap, cond, refl, sym}
use Rattle.std.proofs.lemmas.Str.{IsUtf8-from_is_utf8, is_utf8-from_IsUtf8}
use Rattle.std.specs.Str.{is_utf8}
use Rattle.json.specs.Json.{document}
use Rattle.jskw_c.specs.Repeated.{repeated_lines, repeated_of}

unless : (b : Bool) → (b ≡ true → ⊥) → b ≡ false
unless false h = refl
unless true h = absurd (h refl)

pub lines_of_text : (bytes text : List ℕ) → text ≡ bytes → IsUtf8 bytes
    → repeated_lines bytes ≡ repeated_of (document text)
lines_of_text bytes text same utf8 =
    ap (λ b. cond b (repeated_of (document bytes)) []) (is_utf8-from_IsUtf8 bytes utf8)
    ∙ ap (λ t. repeated_of (document t)) (sym same)

pub no_lines_of_bytes : (bytes : List ℕ) → (IsUtf8 bytes → ⊥) → repeated_lines bytes ≡ []
no_lines_of_bytes bytes none =
    ap (λ b. cond b (repeated_of (document bytes)) [])
    (unless (is_utf8 bytes) (λ e. none (IsUtf8-from_is_utf8 bytes e)))
