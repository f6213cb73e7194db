use Rattle.std.proofs.Common.{◌≡◌, Some, None, rules, string_bytes}
use Rattle.jskw_report.specs.Found.{keyword_named}
use Rattle.jskw_report.proofs.FoundKeywords.{next_again, next_other, next_value}
use Rattle.jskw_report.proofs.keyword_values.find_values.Goals as goal

pub loop-name-preserved-in_default : goal.loop-name-preserved-in_default
loop-name-preserved-in_default c =
    let none : keyword_named (string_bytes c.in-Some.name.now) ≡ None =
    search (rules, c.named.ensures, c.as_str.ensures.value, c.in_default.is, c.in_default.ensures) in
    next_other _ _ _ _ _ (rw c.in-Some.ensures.steps at c.loop-name.invariant) none

pub loop-name-preserved-then-is_none : goal.loop-name-preserved-then-is_none
loop-name-preserved-then-is_none c =
    let is : keyword_named (string_bytes c.in-Some.name.now) ≡ Some c.in-Some-named.keyword =
    search (rules, c.named.ensures, c.as_str.ensures.value, c.in-Some-named.is, c.in-Some-named.ensures) in
    rw c.index-index.ensures
    (next_value c.loop-name.values _ _ c.in-Some.value _ (rw c.in-Some.ensures.steps at c.loop-name.invariant)
    c.in-Some-named.keyword is c.index-values-index.result (rw c.index-index.ensures at c.index-values-index.is)
    (search (rules, c.is_none.ensures, c.if-is_none.true)))

pub loop-name-preserved : goal.loop-name-preserved
loop-name-preserved c =
    let is : keyword_named (string_bytes c.in-Some.name.now) ≡ Some c.in-Some-named.keyword =
    search (rules, c.named.ensures, c.as_str.ensures.value, c.in-Some-named.is, c.in-Some-named.ensures) in
    next_again c.loop-name.values _ _ c.in-Some.value _ (rw c.in-Some.ensures.steps at c.loop-name.invariant)
    c.in-Some-named.keyword is c.index-values-index.result (rw c.index-index.ensures at c.index-values-index.is)
    (search (rules, c.is_none.ensures, c.if-is_none.false))
