use Rattle.std.proofs.Common.{◌≡◌, ◌+◌, map, drop, refl, ap, sym, ◌∙◌}
use Rattle.std.proofs.lemmas.Bool.{cond-true, cond-false, not-true, not-false}
use Rattle.std.proofs.lemmas.List.{map_push}
use Rattle.std.specs.List.{fold}
use Rattle.serde_json.specs.View.{items_view}
use Rattle.jskw_report.specs.KeywordValue.{map_ok, texts}
use Rattle.jskw_leaf.specs.Required.{is_among}
use Rattle.jskw_leaf.proofs.NamesOnce.{add, next_name, from_none, seen_added}
use Rattle.jskw_leaf.proofs.required.compilation.distinct_names.Goals as goal
use Rattle.jskw_leaf.proofs.required.compilation.distinct_names.Goals.{then-branch+in_ok-push, else-branch}

pub loop-item-preserved : goal.loop-item-preserved
loop-item-preserved c =
    let items = c.args.items.now in
    let i = c.loop-item.item-index in
    let done = map (λ k. k.now) c.loop-item.names.items in
    let name = c.in_ok-name.name in
    let later = texts c.args.location.now (items_view (drop (i + 1) items)) in
    let is : map (λ k. k.now) c.if-branch.names.items ≡ add done name.now = elim c.if-branch.branch [
      | then-branch+in_ok-push w ↦
          rw (w.names-is, w.in_ok-push.ensures.items) (map_push (λ k. k.now) c.loop-item.names.items name
          ∙ sym (cond-false _ done _ (sym (c.loop-item.invariant.seen name.now)
          ∙ not-true _ (sym c.in_ok-insert.ensures.added ∙ w.if-branch.true))))
      | else-branch w ↦
          rw w.names-is (sym (cond-true _ done _ (sym (c.loop-item.invariant.seen name.now)
          ∙ not-false _ (sym c.in_ok-insert.ensures.added ∙ w.if-branch.false))))
    ] in
    record {
      seen =
          λ m. seen_added name c.loop-item.seen _ done c.in_ok-insert.ensures.updates c.loop-item.invariant.seen m
          ∙ ap (λ ns. is_among ns m) (sym is);
      read =
          ap (λ ns. map_ok (fold add ns) later) is ∙ sym (next_name _ items i c.item-item.result done name.now
          c.loop-item-test.true c.item-item.is c.in_ok-name.ensures) ∙ c.loop-item.invariant.read;
    }

pub loop-item-init : goal.loop-item-init
loop-item-init c = record {
  seen = λ m. rw (c.new-seen.ensures.empty, c.new-names.ensures.items) refl;
  read = rw c.new-names.ensures.items (from_none (texts c.args.location.now (items_view c.args.items.now)));
}
