use Rattle.std.proofs.Common.{drop, subst}
use Rattle.jskw_value.specs.Decimal.{value}
use Rattle.jskw_text.proofs.Lexemes.{number_first}
use Rattle.jskw_text.specs.Passing.{PassesNumber}
use Rattle.jskw_text.proofs.cursor.Cursor.number.Goals as goal

pub returns : goal.returns
returns c =
    let d = c.self.inside.text.now in
    let at = c.self.inside.at in
    let found = c.in_ok-decimal in
    let x = value found.decimal in
    subst (λ t. PassesNumber t x (drop found.end d)) c.self.view_is (number_first d at found.end x found.ensures)
