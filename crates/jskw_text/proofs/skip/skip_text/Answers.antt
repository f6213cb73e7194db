use Rattle.std.proofs.Common.{◌≡◌, ◌+◌, ◌<◌, length, get_or, drop, ap, ◌∙◌, arith, lt_of_not-le}
use Rattle.std.proofs.lemmas.List.{get_or_default, get_or_past}
use Rattle.std.specs.List.{prefix_len, slice_range}
use Rattle.json.specs.Run.{is_plain}
use Rattle.jskw_text.proofs.Lexemes.{string_first}
use Rattle.jskw_text.proofs.skip.skip_text.Goals as goal

pub returns-then-byte_at-eq34 : goal.returns-then-byte_at-eq34
returns-then-byte_at-eq34 c =
    let d = c.args.text.now in
    let at = c.args.at in
    let stop = c.plain_end-stop.result in
    let within : at < length d = lt_of_not-le (λ h. omega (arith, get_or_past d at 32 h, c.requires.quote)) in
    let is : stop ≡ at + 1 + prefix_len is_plain (drop (at + 1) d) =
    c.plain_end-stop.ensures.value
    ∙ ap (λ t. at + 1 + prefix_len is_plain (drop (at + 1) t)) c.as_bytes.ensures.value in
    let closing : get_or d stop 32 ≡ 34 =
    omega (arith, c.byte_at.ensures.value, ap (λ t. get_or t stop 32) c.as_bytes-2.ensures.value) in
    let inside : stop < length d = lt_of_not-le (λ h. omega (arith, get_or_past d stop 32 h)) in (
      omega (arith, is),
      omega (arith, inside),
      (
        slice_range d (at + 1) stop,
        string_first d at stop within (get_or_default d at 0 32 within ∙ c.requires.quote) is inside
            (get_or_default d stop 0 32 inside ∙ closing),
      ),
    )
