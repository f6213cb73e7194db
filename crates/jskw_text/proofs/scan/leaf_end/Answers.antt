use Rattle.std.proofs.Common.{refl}
use Rattle.json.specs.Token as token
use Rattle.jskw_value.specs.Tree.{string}
use Rattle.jskw_text.proofs.Lexemes.{if_some}
use Rattle.jskw_text.specs.Passing.{SkipsLeaf, SkipsText, Spans}
use Rattle.jskw_text.proofs.scan.leaf_end.Goals as goal

pub returns-then-bytes-at-eq34 : goal.returns-then-bytes-at-eq34
returns-then-bytes-at-eq34 c =
    let d = c.args.bytes.now in
    let at = c.args.at in
    if_some (Spans SkipsText d at) (Spans SkipsLeaf d at) c.text_end.result
    (λ end text. (text.0, text.1, (string text.2.0, (token.string text.2.0, text.2.1, refl)))) c.text_end.ensures.text
