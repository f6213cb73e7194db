use Rattle.std.proofs.Common.{◌∙◌, option_map, ap, sym}
use Rattle.serde_json.specs.View.{view}
use Rattle.jskw_leaf.proofs.BareReading.{only_text, typed}
use Rattle.jskw_leaf.proofs.in_place.bare.only_type.Goals as goal

pub returns : goal.returns
returns c =
    let found = sym (ap (option_map (λ v. view v.now)) c.in-Some.is) ∙ c.get.ensures in
    only_text (λ s. s.now) (view c.args.schema.now)
    (view c.in-Some.value.now) c.as_str.result _ c.requires found c.as_str.ensures
    ∙ ap (λ r. typed r.now) (sym c.unwrap_or.ensures)
