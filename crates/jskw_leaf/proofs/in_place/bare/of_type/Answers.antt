use Rattle.std.proofs.Common.{◌∙◌, ap}
use Rattle.jskw_value.specs.declared.types.JsonType.TheVariants.{Integer}
use Rattle.jskw_report.specs.Keyword.{as_written, by_value}
use Rattle.jskw_report.specs.Read.{integers_of}
use Rattle.jskw_report.specs.declared.error.TypeKind.TheVariants.{Single}
use Rattle.jskw_leaf.proofs.BareReading.{integer_items, integers_by_value}
use Rattle.jskw_leaf.proofs.in_place.bare.of_type.Goals as goal

pub returns-in-Draft4 : goal.returns-in-Draft4
returns-in-Draft4 g c = λ j named.
    let a = c.args in
    let d = c.in_default in
    let rule = ap (λ draft. integers_of draft (Single Integer)) c.in-Draft4.is in
    c.new-in-Draft4.ensures ∙ integer_items a.name.now j a.draft as_written a.location a.type_location c.requires
    d.not-number d.not-string d.not-boolean named rule

pub returns-in_default-draft : goal.returns-in_default-draft
returns-in_default-draft g c = λ j named.
    let a = c.args in
    let d = c.in_default in
    let rule = integers_by_value a.draft c.in_default-draft.not-Draft4 in
    c.new-in_default-draft.ensures ∙ integer_items a.name.now j a.draft by_value a.location a.type_location c.requires
    d.not-number d.not-string d.not-boolean named rule
