use Rattle.std.proofs.Common.{◌≡◌, ◌+◌, ◌<◌, [], ◌∷◌, length, drop, get_or, sym, ap, ◌∙◌, subst, arith, lt_of_not-le}
use Rattle.std.proofs.lemmas.List.{get_or_default, get_or_past}
use Rattle.std.proofs.lemmas.Str.{IsCharBoundary-after_ascii}
use Rattle.std.specs.List.{prefix_len}
use Rattle.json.specs.Lex.{token}
use Rattle.json.specs.Run.{is_plain}
use Rattle.json.specs.Token.{string}
use Rattle.json.specs.Word.{head}
use Rattle.jskw_text.proofs.Lexemes.{string_first}
use Rattle.jskw_text.proofs.ShortNumbers.{head_is}
use Rattle.jskw_text.specs.Passing.{Passes}
use Rattle.jskw_text.proofs.cursor.Cursor.string.Goals as goal

pub range-requires-clause-start_boundary : goal.range-requires-clause-start_boundary
range-requires-clause-start_boundary c some =
    let d = c.self.inside.text.now in
    let at = c.self.inside.at in
    let quote : get_or d at 32 ≡ 34 = sym (head_is d at) ∙ ap head c.self.view_is ∙ c.requires in
    let within : at < length d = lt_of_not-le (λ h. omega (arith, get_or_past d at 32 h)) in
    IsCharBoundary-after_ascii d at c.self.invariant.1 within (omega (arith, get_or_default d at 0 32 within))

pub returns-clause-string : goal.returns-clause-string
returns-clause-string c =
    let d = c.self.inside.text.now in
    let at = c.self.inside.at in
    let stop = c.plain_end-stop.result in
    let quote : get_or d at 32 ≡ 34 = sym (head_is d at) ∙ ap head c.self.view_is ∙ c.requires in
    let within : at < length d = lt_of_not-le (λ h. omega (arith, get_or_past d at 32 h)) in
    let is : stop ≡ at + 1 + prefix_len is_plain (drop (at + 1) d) =
    c.plain_end-stop.ensures.value
    ∙ ap (λ t. at + 1 + prefix_len is_plain (drop (at + 1) t)) c.as_bytes.ensures.value in
    let closing : get_or d stop 32 ≡ 34 =
    omega (arith, c.byte_at.ensures.value, ap (λ t. get_or t stop 32) c.as_bytes-2.ensures.value) in
    let inside : stop < length d = lt_of_not-le (λ h. omega (arith, get_or_past d stop 32 h)) in
    let passed =
    string_first d at stop within (get_or_default d at 0 32 within ∙ quote) is inside
    (get_or_default d stop 0 32 inside ∙ closing) in
    subst (λ t. Passes t (token (string c.range.result.now) ∷ []) (drop (stop + 1) d)) c.self.view_is
    (subst (λ s. Passes (drop at d) (token (string s) ∷ []) (drop (stop + 1) d)) (sym c.range.ensures.value) passed)
