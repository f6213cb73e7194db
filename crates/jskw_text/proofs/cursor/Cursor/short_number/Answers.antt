use Rattle.std.proofs.Common.{drop, subst}
use Rattle.jskw_value.specs.Decimal.{value}
use Rattle.jskw_text.proofs.Lexemes.{number_first}
use Rattle.jskw_text.specs.Passing.{PassesNumber, IsNumberAt}
use Rattle.jskw_text.proofs.cursor.Cursor.short_number.Goals as goal

pub returns-clause-number : goal.returns-clause-number
returns-clause-number c =
    let d = c.self.inside.text.now in
    let at = c.self.inside.at in
    let found = c.in_ok-decimal in
    let x = value found.decimal in
    let is =
    subst (λ t. IsNumberAt t at found.end x) c.as_bytes.ensures.value found.ensures in
    subst (λ t. PassesNumber t x (drop found.end d)) c.self.view_is (number_first d at found.end x is)
