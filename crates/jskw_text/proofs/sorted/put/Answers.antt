use Rattle.std.proofs.Common.{ap, ◌∙◌, subst}
use Rattle.jskw_value.specs.Members.{lasts}
use Rattle.jskw_text.specs.Members.{members_seen, AreBehind}
use Rattle.jskw_text.proofs.Members.{last_seen, put_inside}
use Rattle.jskw_text.proofs.sorted.put.Goals as goal

pub returns-2 : goal.returns-2
returns-2 c =
    ap (λ ms. members_seen (lasts ms)) c.in_ok-push-2.ensures.items ∙ last_seen c.args.found.now.items c.args.member

pub returns : goal.returns
returns c =
    ap (λ ms. members_seen (lasts ms)) c.in_ok-push.ensures.items ∙ last_seen c.args.found.now.items c.args.member

pub returns-then-place-len : goal.returns-then-place-len
returns-then-place-len c =
    let ms = c.args.found.now.items in
    let place = c.in-Some.place in
    let behind = subst (λ k. AreBehind k ms place) c.as_str.ensures.value
    (subst (λ l. AreBehind c.as_str.result.now l place) c.as_slice.ensures.value c.in-Some.ensures.behind) in
    ap (λ l. members_seen (lasts l)) c.in_ok-insert.ensures.items ∙ put_inside ms place c.args.member behind
