use Rattle.std.proofs.Common.{◌+◌, ◌<◌, length, string_bytes, IfSome, ◌∙◌, subst, arith, lt_of_not-le}
use Rattle.std.proofs.lemmas.List.{get_or_default, get_or_past}
use Rattle.std.proofs.lemmas.Str.{IsCharBoundary-after_ascii}
use Rattle.jskw_text.specs.Escapes.{IsString}
use Rattle.jskw_text.proofs.Lexemes.{escaped_first}
use Rattle.jskw_text.proofs.skip.skip_escaped.Goals as goal

pub unescape-requires-clause-start : goal.unescape-requires-clause-start
unescape-requires-clause-start c =
    let d = c.args.text.now in
    let at = c.args.at in
    let within : at < length d = lt_of_not-le (λ h. omega (arith, get_or_past d at 32 h, c.requires.quote)) in
    IsCharBoundary-after_ascii d at c.requires.utf8 within
    (omega (arith, get_or_default d at 0 32 within, c.requires.quote))

pub returns : goal.returns
returns c =
    let d = c.args.text.now in
    let at = c.args.at in
    let stop = c.in-Ok-Some.stop in
    let s = string_bytes c.unescape.new.content in
    let within : at < length d = lt_of_not-le (λ h. omega (arith, get_or_past d at 32 h, c.requires.quote)) in
    let is : IsString d (at + 1) s stop =
    subst (λ o. IfSome o (IsString d (at + 1) s)) c.in-Ok-Some.field-0-is c.in-Ok-Some.ensures in (
      omega (arith, is.bounds.0),
      omega (arith, is.bounds.1),
      (s, escaped_first d at stop s within (get_or_default d at 0 32 within ∙ c.requires.quote) is),
    )
