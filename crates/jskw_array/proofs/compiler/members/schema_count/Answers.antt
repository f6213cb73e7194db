use Rattle.std.proofs.Common.{Some, ap, sym, ◌∙◌}
use Rattle.std.specs.Vec.{vec_len}
use Rattle.serde_json.proofs.Views.{items_len-items_view, view-Array}
use Rattle.jskw_array.specs.Words.{array_schema_count, view}
use Rattle.jskw_array.proofs.compiler.members.schema_count.Goals as goal

pub returns-in-Some-Array : goal.returns-in-Some-Array
returns-in-Some-Array c =
    let vs = c.in-Some-Array.items in
    ap Some (c.len.ensures ∙ ap vec_len c.in-Some-Array.items-is ∙ vs.ok.0 ∙ sym (items_len-items_view vs.items))
    ∙ ap (λ d. array_schema_count (Some d)) (sym (view-Array vs))
    ∙ ap (λ v. array_schema_count (Some (view v))) (sym c.in-Some-Array.field-0-is)
    ∙ ap array_schema_count c.in-Some-Array.ensures
