use Rattle.std.proofs.Common.{◌≡◌, get_or, true, ◌∙◌, arith, rules}
use Rattle.json.specs.Word.{is_space}
use Rattle.jskw_text.proofs.Lexemes.{space_passed}
use Rattle.jskw_text.proofs.scan.behind_some_spaces.Goals as goal

pub spaces-preserved : goal.spaces-preserved
spaces-preserved c =
    let d = c.args.bytes.now in
    let space : is_space (get_or d c.spaces.at 0) ≡ true = search rules in
    (c.spaces.invariant.0 ∙ space_passed d c.spaces.at (omega arith) space, omega arith, omega arith)
