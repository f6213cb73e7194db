-- A place in a text.
use Rattle.std.proofs.Common.{◌≡◌, ℕ, suc, List, min, length, take, sym, ap, ◌∙◌, arith}
use Rattle.std.proofs.lemmas.List.{take_min}
use Rattle.jskw_text.specs.Position.{IsPlaceIn, line_at, column_at, line_feeds, column_after}
use Rattle.jskw_text.specs.declared.position.Position.{Position}

-- the place of an offset, or of the end of a text that is shorter
pub is_place : (bytes : List ℕ) (offset : ℕ) (p : Position) → p.offset ≡ min offset (length bytes)
    → p.line ≡ line_at offset bytes → p.column ≡ column_at offset bytes → IsPlaceIn bytes p
is_place bytes offset p at line column =
    let same : take offset bytes ≡ take p.offset bytes =
    sym (ap (λ n. take n bytes) at ∙ take_min offset bytes) in
    record {
      within = omega (arith, at);
      line = line ∙ ap (λ t. suc (line_feeds t)) same;
      column = column ∙ ap (column_after 1) same;
    }
