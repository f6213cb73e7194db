use Rattle.std.proofs.Common.{◌≡◌, ◌∙◌, ◌++◌, None, ap}
use Rattle.jskw_documents.specs.Shown.{objects_text, place_members}
use Rattle.jskw_documents.proofs.errors.basic_invalid.Goals as goal

pub returns : goal.returns
returns c =
    let d = c.args.document.now in
    let p = c.place.result in
    let cut = c.args.is_cut in
    let members = place_members d.file.now d.line None in
    let same : place_members p.file.now p.line p.column ≡ members =
    ap (λ z. place_members z p.line p.column) c.place.ensures.0
    ∙ ap (λ z. place_members d.file.now z p.column) c.place.ensures.1
    ∙ ap (λ z. place_members d.file.now d.line z) c.place.ensures.2 in (
      c.in_ok-first.first.items,
      c.in_ok-rest.rest.items,
      c.in_ok-first.ensures,
      c.in_ok-rest.ensures,
      c.in_ok-push_objects.ensures
          ∙ ap (λ t. t ++ objects_text c.deref.result.now c.deref-2.result.now cut)
          (c.in_ok-push_place_members.ensures
          ∙ ap (λ t. t ++ place_members p.file.now p.line p.column) c.new-text.ensures.items ∙ same)
          ∙ ap (λ a. members ++ objects_text a c.deref-2.result.now cut) c.deref.ensures.value
          ∙ ap (λ b. members ++ objects_text c.in_ok-first.first.items b cut) c.deref-2.ensures.value,
    )
