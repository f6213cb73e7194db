use Rattle.std.proofs.Common.{rules, ◌≡◌, ◌≤◌, length, nat_le, sym, ap, ap₂, true, ◌∙◌, arith}
use Rattle.std.specs.Int.{w16, w32, w64, to_le_bytes}
use Rattle.std.specs.Str.{bytes_eq}
use Rattle.jskw_value.proofs.TextEnds.{equal_ends, last_tell}
use Rattle.jskw_value.proofs.name_equality.is_same.Goals as goal

pub returns-then-length-le16 : goal.returns-then-length-le16
returns-then-length-le16 c =
    let left = c.as_bytes-left.result.now in
    let low : 8 ≤ length left = omega (arith, c.if-length-lt8.false) in
    let first = sym c.double.ensures.bytes ∙ ap (to_le_bytes w64) c.if-double.false ∙ c.double-2.ensures.bytes in
    let last =
    sym c.double-else-double.ensures.bytes ∙ ap (to_le_bytes w64) c.if-double-2.false
    ∙ c.double-else-double-2.ensures.bytes in
    let short : nat_le (length left) 16 ≡ true = search rules in
    short ∙ sym (equal_ends 8 left _ (length left) low c.if-length-le16.true first last)
    ∙ ap₂ bytes_eq c.as_bytes-left.ensures.value c.as_bytes-right.ensures.value

pub returns-then-word : goal.returns-then-word
returns-then-word c =
    let left = c.as_bytes-left.result.now in
    let low : 4 ≤ length left = omega (arith, c.if-length-lt4.false) in
    let high : length left ≤ 8 = omega (arith, c.if-length-lt8.true) in
    let first = sym c.word.ensures.bytes ∙ ap (to_le_bytes w32) c.if-word.true ∙ c.word-then-length-lt8.ensures.bytes in
    let last = c.word-then-word.ensures in
    let other = c.word-then-word-2.ensures in
    last_tell w32 4 left _ (length left) _ _ low high first last.value last.bytes other.value other.bytes
    ∙ ap₂ bytes_eq c.as_bytes-left.ensures.value c.as_bytes-right.ensures.value

pub returns-then-half : goal.returns-then-half
returns-then-half c =
    let left = c.as_bytes-left.result.now in
    let low : 2 ≤ length left = omega (arith, c.if-length-lt2.false) in
    let high : length left ≤ 4 = omega (arith, c.if-length-lt4.true) in
    let first = sym c.half.ensures.bytes ∙ ap (to_le_bytes w16) c.if-half.true ∙ c.half-then-length-lt4.ensures.bytes in
    let last = c.half-then-half.ensures in
    let other = c.half-then-half-2.ensures in
    last_tell w16 2 left _ (length left) _ _ low high first last.value last.bytes other.value other.bytes
    ∙ ap₂ bytes_eq c.as_bytes-left.ensures.value c.as_bytes-right.ensures.value
