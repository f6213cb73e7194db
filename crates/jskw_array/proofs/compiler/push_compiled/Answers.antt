use Rattle.std.proofs.Common.{rules, ◌≡◌, ◌∙◌, Ok, ap, is_some, subst, sym}
use Rattle.jskw_array.specs.Words.{CompilesTo, ShapeBegins, absorbed_keywords, keywords_of, shape_in, shape_keywords}
use Rattle.jskw_array.proofs.KeywordsOfParts.{shape_before, shape_begins_all, shape_in_first}
use Rattle.jskw_array.proofs.compiler.push_compiled.Goals as goal

pub returns-clause-made : goal.returns-clause-made
returns-clause-made g c read compiled =
    let of_shape =
    shape_keywords {F = g.row.F.Denot} {Node = g.row.F-Node.Denot} {Number = g.row.F-Node-Number.Denot}
    {Key = g.row.F-Node-PreparedKey.Denot} in
    let v = c.in_ok-shape.shape in
    let lent : c.deref.result.now ≡ v.value = search (rules, c.deref.ensures) in
    let before = c.in_ok-pushed.ensures.keywords ∙ ap (λ s. absorbed_keywords s.absorbed) lent in
    subst (λ x. CompilesTo of_shape x read) c.in_ok-compiled.was compiled
    ∙ ap Ok (ap of_shape (sym c.in_ok-shape.ensures.ok) ∙ shape_before c.push_absorbed-pushed.new.parts.items v before
    ∙ sym (ap keywords_of c.in_ok-push.ensures.items))

pub returns-clause-fused : goal.returns-clause-fused
returns-clause-fused g c =
    ap (λ us. is_some (shape_in us)) c.in_ok-push.ensures.items
    ∙ ap is_some (shape_in_first c.push_absorbed-pushed.new.parts.items c.in_ok-shape.shape
    c.in_ok-pushed.ensures.fused)

pub returns-clause-begins : goal.returns-clause-begins
returns-clause-begins g c =
    let us = c.push_absorbed-pushed.new.parts.items in
    let v = c.in_ok-shape.shape in
    let lent : c.deref.result.now ≡ v.value = search (rules, c.deref.ensures) in
    let before = c.in_ok-pushed.ensures.keywords ∙ ap (λ s. absorbed_keywords s.absorbed) lent in
    subst ShapeBegins (sym c.in_ok-push.ensures.items)
    (shape_begins_all us v c.in_ok-pushed.ensures.fused (shape_before us v before))
