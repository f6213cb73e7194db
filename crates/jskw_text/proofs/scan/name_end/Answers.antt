use Rattle.std.proofs.Common.{◌≡◌, ◌+◌, drop, get_or, refl, ◌∙◌, arith}
use Rattle.std.proofs.lemmas.List.{get_or_default}
use Rattle.json.specs.Lex.{colon, token as token_lexeme}
use Rattle.json.specs.Token.{string}
use Rattle.jskw_text.proofs.Spans.{both, operator_at}
use Rattle.jskw_text.proofs.scan.name_end.Goals as goal

pub returns : goal.returns
returns c =
    let d = c.args.bytes.now in
    let at = c.args.at in
    let end = c.in_ok-end.end in
    let text = c.in_ok-end.ensures.text in
    let inside = c.in_ok-end.ensures.inside in
    let behind : get_or d end 32 ≡ 58 = get_or_default d end 32 0 inside ∙ omega arith in (
      omega (arith, text.0),
      omega (arith, inside),
      (
        text.2.0,
        both (drop at d) (drop end d) (drop (end + 1) d) (token_lexeme (string text.2.0)) colon text.2.1
            (operator_at d end 58 behind refl),
      ),
    )
