use Rattle.std.proofs.Common.{◌==◌, ap, sym, ◌∙◌}
use Rattle.jskw_report.specs.Sibling.{has_items}
use Rattle.serde_json.specs.View.{view}
use Rattle.jskw_leaf.proofs.ItemCounts.{item_count}
use Rattle.jskw_leaf.proofs.required.delegation.is_array_of.Goals as goal

pub returns-in-Array : goal.returns-in-Array
returns-in-Array c =
    ap (λ n. n == c.args.count) (c.len.ensures ∙ c.in-Array.items.ok.0) ∙ sym (item_count c.args.count c.in-Array.items)
    ∙ ap (λ v. has_items c.args.count (view v)) (sym c.in-Array.is)
