-- Bytes that are no text have no reading.
use Rattle.std.proofs.Common.{◌≡◌, ℕ, List, Bool, true, false, cond, None, option_map, refl, ap, ◌∙◌, IsUtf8, IsTrue}
use Rattle.std.proofs.Common.{min, length, subst}
use Rattle.std.proofs.Common.{arith}
use Rattle.std.specs.Str.{is_utf8, IsValidUpTo}
use Rattle.std.proofs.lemmas.Str.{IsUtf8-from_is_utf8, is_utf8-from_IsUtf8}
use Rattle.jskw_text.specs.ReadFault.{IsBrokenAt}
use Rattle.jskw_text.specs.Reading.{document, tree_of}

pub is_text : (text bytes : List ℕ) → text ≡ bytes → IsUtf8 bytes → IsTrue (is_utf8 text)
is_text text bytes e utf8 = ap is_utf8 e ∙ is_utf8-from_IsUtf8 bytes utf8

no_text : (b : Bool) (bytes : List ℕ) → (b ≡ true → ⊥) → option_map tree_of (cond b (document bytes) None) ≡ None
no_text true bytes h = absurd (h refl)
no_text false bytes h = refl

pub broken_bytes : (bytes : List ℕ) (offset : ℕ) → ¬ (IsUtf8 bytes) → IsValidUpTo bytes offset → IsBrokenAt bytes offset
broken_bytes bytes offset none up = record {
  unread = no_text (is_utf8 bytes) bytes (λ e. none (IsUtf8-from_is_utf8 bytes e));
  within = omega (arith, up.short);
  utf8 = λ e. up;
}

-- the same, of an offset that a place has
pub broken_there : (bytes : List ℕ) (offset o : ℕ) → IsBrokenAt bytes offset → o ≡ min offset (length bytes)
    → IsBrokenAt bytes o
broken_there bytes offset o h e =
    let same : offset ≡ o = omega (arith, h.within, e) in
    subst (IsBrokenAt bytes) same h
