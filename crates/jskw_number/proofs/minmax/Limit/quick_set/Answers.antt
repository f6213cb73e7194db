use Rattle.std.proofs.Common.{rules, ◌≡◌, ◌∙◌, ℕ, ℤ, true, subst, to_z, of_z}
use Rattle.std.specs.Int.{w128}
use Rattle.jskw_value.specs.Number.{exact}
use Rattle.jskw_report.specs.Holds.{stands_in}
use Rattle.jskw_number.specs.QuickSet.{encloses, in_range}
use Rattle.jskw_number.proofs.QuickSets.{accepted_limit}
use Rattle.jskw_number.proofs.minmax.Limit.quick_set.Goals as goal

pub returns : goal.returns
returns g c =
    let relation = g.R.LimitTest.relation in
    let range = c.integers.result in
    let same : to_z w128 (of_z w128 c.to_i128.result) ≡ c.to_i128.result = search rules in
    let is_limit = same ∙ c.to_i128.ensures.value in
    let within =
    subst (λ n. (z : ℤ) → in_range range z ≡ true → stands_in relation z 0 n ≡ true) is_limit
    c.integers.ensures.integers in
    let enclosed =
    subst (λ n. (z : ℤ) (k : ℕ) → encloses range (exact z k) ≡ true → stands_in relation z k n ≡ true) is_limit
    c.integers.ensures.enclosed in
    accepted_limit c.but_numbers_beyond.result range relation
    (g.T.Whole.whole c.args.self.now.limit) c.but_numbers_beyond.ensures within enclosed
