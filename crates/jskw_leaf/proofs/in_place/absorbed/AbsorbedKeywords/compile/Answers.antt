use Rattle.std.proofs.Common.{◌∙◌, Ok, ap, sym, arith}
use Rattle.jskw_value.specs.declared.types.JsonType.TheVariants.{Array}
use Rattle.jskw_leaf.specs.Items.{absorbed_keywords, optional}
use Rattle.jskw_report.specs.Keyword.{append_keywords, by_value, keyword}
use Rattle.jskw_number.specs.Meaning.{max_items, min_items}
use Rattle.serde_json.specs.View.{members_view}
use Rattle.jskw_report.specs.Meaning.{as_keyword}
use Rattle.jskw_leaf.specs.Meaning.{type_at}
use Rattle.jskw_leaf.proofs.PassedFaults.{passed_by_try}
use Rattle.jskw_leaf.proofs.FusedReading.{absorbed_made, absorbed_refused, absorbed_refused_next, fused_max, fused_min}
use Rattle.jskw_leaf.proofs.FusedReading.{fused_type}
use Rattle.jskw_leaf.proofs.in_place.absorbed.AbsorbedKeywords.compile.Goals as goal

pub compile_bound-requires : goal.compile_bound-requires
compile_bound-requires g c =
    (omega arith, fused_min c.args.ctx.now.setting (members_view c.args.parent.now.entries) c.requires)

pub compile_bound-requires-2 : goal.compile_bound-requires-2
compile_bound-requires-2 g c =
    (omega arith, fused_max c.args.ctx.now.setting (members_view c.args.parent.now.entries) c.requires)

pub returns-in_err-min_items : goal.returns-in_err-min_items
returns-in_err-min_items g c =
    let s = c.args.ctx.now.setting in
    let p = c.args.ctx.now.location in
    let ms = members_view c.args.parent.now.entries in
    passed_by_try (optional (min_items {A = 1} {L = 1})) (λ a. absorbed_keywords a.value) c.in_err-min_items.field-0.0 _
    _ _ c.from_residual-in_err-min_items.ensures.1 c.in_err-min_items.ensures
    (absorbed_refused s p ms (fused_type s ms c.requires))

pub returns-in_err-max_items : goal.returns-in_err-max_items
returns-in_err-max_items g c =
    let s = c.args.ctx.now.setting in
    let p = c.args.ctx.now.location in
    let ms = members_view c.args.parent.now.entries in
    passed_by_try (optional (max_items {A = 1} {L = 0})) (λ a. absorbed_keywords a.value) c.in_err-max_items.field-0.0 _
    _ _ c.from_residual-in_err-max_items.ensures.1 c.in_err-max_items.ensures
    (λ e. absorbed_refused_next s p ms (fused_type s ms c.requires) _ e c.in_ok-min_items.ensures)

pub returns : goal.returns
returns g c =
    let s = c.args.ctx.now.setting in
    let p = c.args.ctx.now.location in
    let ms = members_view c.args.parent.now.entries in
    let bounds =
    append_keywords (optional min_items c.in_ok-min_items.min_items)
    (optional max_items c.in_ok-max_items.max_items) in
    absorbed_made s p ms (fused_type s ms c.requires) _ _ c.in_ok-min_items.ensures c.in_ok-max_items.ensures
    ∙ ap (λ q. Ok (keyword q (as_keyword (type_at Array by_value q)) bounds)) (sym c.in_ok-location.ensures)
    ∙ ap (λ a. Ok (keyword a.location (as_keyword a) bounds)) (sym c.at.ensures)
    ∙ ap (λ a. Ok (absorbed_keywords a)) (sym c.in_ok-new.ensures.ok)
