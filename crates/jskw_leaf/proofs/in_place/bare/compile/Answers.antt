use Rattle.std.proofs.Common.{◌∙◌, ap}
use Rattle.serde_json.specs.View.{members_view, view}
use Rattle.jskw_report.specs.Read.{keyword_location}
use Rattle.jskw_report.specs.declared.keyword.KeywordName.TheVariants.{Items, TypeKeyword}
use Rattle.jskw_leaf.specs.Items.{bare_keyword}
use Rattle.jskw_leaf.proofs.BareReading.{bare_inlined, bare_is_type, bare_reads, placed_items}
use Rattle.jskw_leaf.proofs.in_place.bare.compile.Goals as goal

pub only_type-requires : goal.only_type-requires
only_type-requires g c =
    bare_is_type c.args.ctx.now.setting (members_view c.args.parent.now.entries) (view c.args.schema.now) c.requires

pub of_type-requires : goal.of_type-requires
of_type-requires g c =
    bare_inlined c.args.ctx.now.setting (members_view c.args.parent.now.entries) (view c.args.schema.now)
    c.only_type.result.now c.requires c.only_type.ensures

pub returns : goal.returns
returns g c =
    let point = c.args.ctx.now in
    let q = keyword_location point.location Items in
    let location = c.in_ok-location.ensures ∙ c.place.ensures ∙ ap (λ below. below.location) c.in_ok-below.ensures in
    let type_location =
    c.in_ok-type_location.ensures
    ∙ ap (λ below. keyword_location below.location TypeKeyword) c.in_ok-below.ensures in
    bare_reads point.setting (members_view c.args.parent.now.entries) q (view c.args.schema.now)
    c.only_type.result.now (bare_keyword c.of_type.result) c.requires c.only_type.ensures
    (λ j named. placed_items j (c.of_type.ensures j named) location type_location c.draft.ensures)
