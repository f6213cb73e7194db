use Rattle.std.proofs.Common.{◌≡◌, ◌+◌, ◌<◌, [], ◌∷◌, length, drop, get_or, sym, ap, ◌∙◌, subst, arith, lt_of_not-le}
use Rattle.std.proofs.Common.{string_bytes, IfSome}
use Rattle.std.proofs.lemmas.List.{get_or_default, get_or_past}
use Rattle.std.proofs.lemmas.Str.{IsCharBoundary-after_ascii}
use Rattle.json.specs.Lex.{token}
use Rattle.json.specs.Token.{string}
use Rattle.json.specs.Word.{head}
use Rattle.jskw_text.proofs.Lexemes.{escaped_first}
use Rattle.jskw_text.proofs.ShortNumbers.{head_is}
use Rattle.jskw_text.specs.Escapes.{IsString}
use Rattle.jskw_text.specs.Passing.{Passes}
use Rattle.jskw_text.proofs.cursor.Cursor.escaped_string.Goals as goal

pub unescape-requires-clause-start : goal.unescape-requires-clause-start
unescape-requires-clause-start c =
    let d = c.self.inside.text.now in
    let at = c.self.inside.at in
    let quote : get_or d at 32 ≡ 34 = sym (head_is d at) ∙ ap head c.self.view_is ∙ c.requires.first in
    let within : at < length d = lt_of_not-le (λ h. omega (arith, get_or_past d at 32 h)) in
    IsCharBoundary-after_ascii d at c.self.invariant.1 within (omega (arith, get_or_default d at 0 32 within))

pub returns : goal.returns
returns c some =
    let d = c.self.inside.text.now in
    let at = c.self.inside.at in
    let s = string_bytes c.unescape.new.content in
    let quote : get_or d at 32 ≡ 34 = sym (head_is d at) ∙ ap head c.self.view_is ∙ c.requires.first in
    let within : at < length d = lt_of_not-le (λ h. omega (arith, get_or_past d at 32 h)) in
    let is : IsString d (at + 1) s c.in-Some.stop =
    subst (λ o. IfSome o (IsString d (at + 1) s)) c.in-Some.is c.in_ok-stop.ensures in
    let passed = escaped_first d at c.in-Some.stop s within (get_or_default d at 0 32 within ∙ quote) is in
    subst (λ t. Passes t (token (string s) ∷ []) (drop (c.in-Some.stop + 1) d)) c.self.view_is passed
