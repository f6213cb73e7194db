use Rattle.std.proofs.Common.{◌∙◌, ◌+◌, ◌||◌, drop, ap, sym}
use Rattle.jskw_array.specs.Words.{keyword_delegates, keywords_delegate, keywords_of, validator_keyword}
use Rattle.jskw_array.proofs.WalksOverParts.{delegates_at}
use Rattle.jskw_array.proofs.part.some_part_delegates.Goals as goal

pub returns-then-hands_on_required : goal.returns-then-hands_on_required
returns-then-hands_on_required g c =
    let l = c.loop-part in
    let us = c.args.parts.now in
    let rest = keywords_delegate (keywords_of (drop (l.part-index + 1) us)) in
    let own = sym (ap (λ x. keyword_delegates (validator_keyword x.validator)) c.keyword.ensures) in
    sym (l.invariant ∙ delegates_at us l.part-index c.part-item.result c.loop-part-test.true c.part-item.is
    ∙ ap (λ b. b || rest) (own ∙ sym c.hands_on_required.ensures ∙ c.if-hands_on_required.true))

pub loop-part-preserved : goal.loop-part-preserved
loop-part-preserved g c =
    let l = c.loop-part in
    let us = c.args.parts.now in
    let rest = keywords_delegate (keywords_of (drop (l.part-index + 1) us)) in
    let own = sym (ap (λ x. keyword_delegates (validator_keyword x.validator)) c.keyword.ensures) in
    l.invariant ∙ delegates_at us l.part-index c.part-item.result c.loop-part-test.true c.part-item.is
    ∙ ap (λ b. b || rest) (own ∙ sym c.hands_on_required.ensures ∙ c.if-hands_on_required.false)
