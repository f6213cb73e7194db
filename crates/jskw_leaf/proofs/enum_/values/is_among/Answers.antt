use Rattle.std.proofs.Common.{rules, ◌∙◌}
use Rattle.std.proofs.lemmas.List.{take_rest}
use Rattle.std.proofs.lemmas.List.Sorted.{IsPartitionPoint-from_clause, IsPartitionedBy-ltb}
use lib.Dec.{ltb}
use Rattle.jskw_leaf.proofs.OptionFingerprints.{searched_values}
use Rattle.jskw_leaf.proofs.enum_.values.is_among.Goals as goal

pub starts_with_equal-requires : goal.starts_with_equal-requires
starts_with_equal-requires g c =
    let p = c.of_whole-fingerprint.result in
    let os = c.args.options.now in
    let start = c.partition_point-start.result in
    let at =
    IsPartitionPoint-from_clause (λ o. ltb o.fingerprint p) os start c.partition_point-start.ensures.partitioned
    (IsPartitionedBy-ltb (λ o. o.fingerprint) os p c.requires.sorted) (λ a r q k. search rules) in
    rw (take_rest os start) (searched_values c.args.seed p _ c.of_whole-fingerprint.ensures.value
    c.of_whole-fingerprint.ensures.distinct start os c.requires.fingerprinted c.requires.sorted at).0

pub returns : goal.returns
returns g c =
    let p = c.of_whole-fingerprint.result in
    let os = c.args.options.now in
    let start = c.partition_point-start.result in
    let at =
    IsPartitionPoint-from_clause (λ o. ltb o.fingerprint p) os start c.partition_point-start.ensures.partitioned
    (IsPartitionedBy-ltb (λ o. o.fingerprint) os p c.requires.sorted) (λ a r q k. search rules) in
    c.starts_with_equal.ensures ∙ rw (take_rest os start) (searched_values c.args.seed p _
    c.of_whole-fingerprint.ensures.value c.of_whole-fingerprint.ensures.distinct start os c.requires.fingerprinted
    c.requires.sorted at).1
