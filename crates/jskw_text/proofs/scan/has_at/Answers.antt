use Rattle.std.proofs.Common.{◌≡◌, ◌++◌, drop, length, true, nat_eq, sym, ap, ◌∙◌}
use Rattle.std.proofs.lemmas.List.{drop-drop, take_rest}
use Rattle.std.specs.List.{starts_with}
use Rattle.jskw_text.proofs.Lexemes.{named}
use Rattle.jskw_text.proofs.scan.has_at.Goals as goal

pub returns : goal.returns
returns c h =
    let t = drop c.args.at c.args.bytes.now in
    let name = c.args.name.now in
    let is : starts_with nat_eq t name ≡ true =
    ap (λ l. starts_with nat_eq l name) (sym (take_rest c.args.bytes.now c.args.at))
    ∙ sym c.starts_with.ensures.value ∙ h in
    named t name is ∙ ap (λ l. name ++ l) (drop-drop (length name) c.args.at c.args.bytes.now)
