use Rattle.std.proofs.Common.{rules, ◌≡◌, ◌∙◌, ap, nat_eq, not, true, Some, None}
use Rattle.serde_json.specs.Find.{get_member}
use Rattle.serde_json.specs.View.{members_view, view}
use Rattle.jskw_report.specs.Setting.{name_of}
use Rattle.jskw_number.specs.Size.{size_of, size_keyword_name}
use Rattle.jskw_leaf.proofs.FusedReading.{size_absent, size_reads}
use Rattle.jskw_leaf.proofs.in_place.absorbed.compile_bound.Goals as goal

pub returns-in_default : goal.returns-in_default
returns-in_default g c =
    let least = not (nat_eq g.row.IS_LEAST 0) in
    let ms = members_view c.args.parent.now.entries in
    let name = c.as_str.ensures ∙ ap name_of c.bound_keyword.ensures in
    let lost : get_member (name_of (size_keyword_name (size_of true least))) ms ≡ None =
    search (rules, name, c.in_default.ensures) in
    size_absent least c.args.ctx.now.setting c.args.ctx.now.location ms lost

pub returns : goal.returns
returns g c =
    let least = not (nat_eq g.row.IS_LEAST 0) in
    let ms = members_view c.args.parent.now.entries in
    let d = view c.in-Some.value.now in
    let name = c.as_str.ensures ∙ ap name_of c.bound_keyword.ensures in
    let found : get_member (name_of (size_keyword_name (size_of true least))) ms ≡ Some d =
    search (rules, name, c.in-Some.ensures) in
    size_reads least c.args.ctx.now.setting c.args.ctx.now.location ms d c.in_ok-compile.field-0 c.requires found
    c.in_ok-compile.ensures
