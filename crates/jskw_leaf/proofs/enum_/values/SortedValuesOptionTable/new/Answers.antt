use Rattle.std.proofs.Common.{◌≡◌, true, rules, subst, sym}
use Rattle.std.proofs.lemmas.Fn.{dedup_same}
use Rattle.std.proofs.lemmas.List.Sorted.{IsNonDecreasingBy-from_sort_by_key}
use Rattle.std.specs.List.{list_all}
use Rattle.std.specs.List.Sorted.{IsNonDecreasingBy}
use Rattle.jskw_leaf.specs.Values.{is_fingerprinted, is_repeat}
use Rattle.jskw_leaf.proofs.OptionFingerprints.{are_values, in_order_once, no_value, fingerprinted_moved}
use Rattle.jskw_leaf.proofs.OptionFingerprints.{fingerprinted_once}
use Rattle.jskw_leaf.proofs.enum_.values.SortedValuesOptionTable.new.Goals as goal

pub invariant_of-result : goal.invariant_of-result
invariant_of-result c =
    let sorted = c.sort_unstable_by_key.new.self.items in
    let once =
    dedup_same _ (λ o last. is_repeat last o) _ (λ x y b f x' y' r. search rules) sorted _
    c.dedup_by.ensures.filtered in
    record {
      typed =
          no_value _ _ _ _ _ c.in_ok-sorted.ensures.same c.sort_unstable_by_key.ensures.permutation once
          c.types_of.ensures;
      fingerprinted =
          subst (λ os. list_all (is_fingerprinted c.seed_of-seed.result) os ≡ true) (sym once)
          (fingerprinted_once _ sorted
          (fingerprinted_moved _ _ _ c.sort_unstable_by_key.ensures.permutation c.in_ok-sorted.ensures.fingerprinted));
      sorted =
          subst (IsNonDecreasingBy (λ o. o.fingerprint)) (sym once)
          (in_order_once sorted (IsNonDecreasingBy-from_sort_by_key
          (λ o. o.fingerprint) _ c.sort_unstable_by_key.ensures.sorted (λ a r q k. search rules)));
    }

pub returns : goal.returns
returns c =
    let sorted = c.sort_unstable_by_key.new.self.items in
    let once =
    dedup_same _ (λ o last. is_repeat last o) _ (λ x y b f x' y' r. search rules) sorted _
    c.dedup_by.ensures.filtered in
    are_values _ _ _ _ c.in_ok-sorted.ensures.same c.sort_unstable_by_key.ensures.permutation once
