-- How many items and members a value has.
use Rattle.std.proofs.Common.{◌≡◌, ℕ, ◌==◌, nat_lt, length, String, Global, Vec, BTreeMap, ap, ◌∙◌}
use Rattle.serde_json.proofs.Views.{items_len-items_view, members_len-members_view, view-Array, view-Object}
use Rattle.serde_json.specs.View.{view}
use Rattle.serde_json.specs.declared.value.Value.{Value}
use Rattle.serde_json.specs.declared.value.Value.TheVariants.{Array, Object}
use Rattle.jskw_report.specs.Sibling.{has_few_members, has_items}

pub item_count : (n : ℕ) (v : Vec Value Global) → has_items n (view (Array v)) ≡ (length v.items == n)
item_count n v = ap (has_items n) (view-Array v) ∙ ap (λ k. k == n) (items_len-items_view v.items)

pub few_members : (m : BTreeMap (String Global) Value)
    → has_few_members (view (Object m)) ≡ nat_lt (length m.entries) 15
few_members m = ap has_few_members (view-Object m) ∙ ap (λ k. nat_lt k 15) (members_len-members_view m.entries)
