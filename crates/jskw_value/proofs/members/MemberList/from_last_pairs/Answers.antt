use Rattle.std.proofs.Common.{rules, ◌≡◌, string_bytes, subst, sym, ◌∙◌, reverse}
use Rattle.std.proofs.lemmas.Cmp.{nat_list_cmp_total}
use Rattle.std.proofs.lemmas.Fn.{dedup_same}
use Rattle.std.proofs.lemmas.List.Sorted.{answers_always, ranks_by}
use Rattle.std.specs.List.{dedup}
use Rattle.std.specs.List.Sorted.{IsSortedBy, IsStableBy}
use Rattle.std.specs.Ordering.{is_lt}
use Rattle.jskw_value.specs.Members.{member_names, AreSorted}
use Rattle.jskw_value.proofs.LastMembers.{by_name, same_name, sorted_kept, lasts_kept, lasts_rising}
use Rattle.jskw_value.proofs.members.MemberList.from_last_pairs.Goals as goal

pub invariant_of-result : goal.invariant_of-result
invariant_of-result g c =
    let rising : AreSorted (member_names c.deref.result.now) = search rules in
    rw (← c.deref.ensures.value) rising

pub returns-then-is_none : goal.returns-then-is_none
returns-then-is_none g c =
    let rising : AreSorted (member_names c.deref.result.now) = search rules in
    sym (lasts_rising c.args.pairs.items (rw (← c.deref.ensures.value) rising))

pub invariant_of-result-2 : goal.invariant_of-result-2
invariant_of-result-2 g c =
    let sorted : IsSortedBy (λ x y. is_lt (by_name x y)) c.sort_by.new.self.items =
    c.in_ok-sort_by.ensures.sorted _ (ranks_by nat_list_cmp_total (λ m. string_bytes m.name))
    (answers_always _ _ _ (λ f a r q called. search rules)) in
    let kept : c.dedup_by.new.self.items ≡ dedup same_name c.sort_by.new.self.items =
    dedup_same _ same_name _ (λ x y b f x' y' called. search rules) _ _ c.dedup_by.ensures.filtered in
    subst (λ ms. AreSorted (member_names ms)) (sym kept) (sorted_kept _ sorted)

pub returns : goal.returns
returns g c =
    let sorted : IsSortedBy (λ x y. is_lt (by_name x y)) c.sort_by.new.self.items =
    c.in_ok-sort_by.ensures.sorted _ (ranks_by nat_list_cmp_total (λ m. string_bytes m.name))
    (answers_always _ _ _ (λ f a r q called. search rules)) in
    let stable : IsStableBy (λ x y. is_lt (by_name x y)) (reverse c.args.pairs.items) c.sort_by.new.self.items =
    rw (← c.reverse.ensures.items) (c.in_ok-sort_by.ensures.stable _
    (ranks_by nat_list_cmp_total (λ m. string_bytes m.name))
    (answers_always _ _ _ (λ f a r q called. search rules))) in
    let kept : c.dedup_by.new.self.items ≡ dedup same_name c.sort_by.new.self.items =
    dedup_same _ same_name _ (λ x y b f x' y' called. search rules) _ _ c.dedup_by.ensures.filtered in
    kept ∙ lasts_kept c.args.pairs.items _ sorted stable
