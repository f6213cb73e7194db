use Rattle.std.proofs.Common.{◌+◌, [], ◌∷◌, drop, ap, ◌∙◌, subst}
use Rattle.std.proofs.lemmas.List.{drop-drop}
use Rattle.json.specs.Lex.{class, operator_lexeme}
use Rattle.json.specs.Word.{head}
use Rattle.jskw_text.proofs.Lexemes.{operator_first}
use Rattle.jskw_text.specs.Passing.{Passes}
use Rattle.jskw_text.proofs.cursor.Cursor.advance.Goals as goal

pub returns : goal.returns
returns c =
    let d = c.self.inside.text.now in
    let at = c.self.inside.at in
    let t = drop at d in
    let passed = operator_first t (ap (λ u. class (head u)) c.self.view_is ∙ c.requires) in
    subst (λ u. Passes u (operator_lexeme (head u) ∷ []) (drop (at + 1) d)) c.self.view_is
    (subst (Passes t (operator_lexeme (head t) ∷ [])) (drop-drop 1 at d) passed)
