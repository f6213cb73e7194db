use Rattle.std.proofs.Common.{nat_lt, ap, sym, ◌∙◌}
use Rattle.jskw_report.specs.Sibling.{has_few_members}
use Rattle.serde_json.specs.View.{view}
use Rattle.jskw_leaf.proofs.ItemCounts.{few_members}
use Rattle.jskw_leaf.proofs.required.delegation.has_few_members.Goals as goal

pub returns-in-Object : goal.returns-in-Object
returns-in-Object c =
    ap (λ n. nat_lt n 15) c.len.ensures.len ∙ sym (few_members c.in-Object.members)
    ∙ ap (λ v. has_few_members (view v)) (sym c.in-Object.is)
