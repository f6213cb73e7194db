use Rattle.std.proofs.Common.{◌≡◌, [], ◌∷◌, ◌++◌, true, length, ◌==◌, sym, subst}
use Rattle.serde_json.specs.View.{view}
use Rattle.jskw_text.specs.declared.wanted.Level.TheVariants.{Whole}
use Rattle.jskw_wanted.specs.Asked.{AsksAll, schemas_seen}
use Rattle.jskw_wanted.specs.Enough.{IsEnough}
use Rattle.jskw_wanted.proofs.LevelsLeft.{at_end, at_next, at_whole_items, no_schemas}
use Rattle.jskw_wanted.proofs.Read.{whole_for_all}
use Rattle.jskw_wanted.proofs.levels.wanted.Goals as goal

pub returns-then-is_empty : goal.returns-then-is_empty
returns-then-is_empty c =
    let none : c.levels.here.items ≡ [] =
    no_schemas c.levels.here.items
    (subst (λ vs. true ≡ (length vs == 0)) c.as_slice.ensures.value c.if-is_empty.ensures) in
    at_end c.args.schema.now c.levels.levels.items c.levels.here.items none c.levels.invariant

pub levels-preserved : goal.levels-preserved
levels-preserved c =
    let asked = c.in_ok-asked.asked in
    at_next c.args.schema.now c.levels.levels.items c.push-in-levels.new.self.items c.levels.here.items asked
    (subst (λ vs. AsksAll asked (schemas_seen vs)) c.deref.ensures.value c.in_ok-asked.ensures) c.if-asked.false
    c.if-asked-2.false c.in_ok-push-2.ensures.items c.levels.invariant

pub returns : goal.returns
returns c =
    let root = c.args.schema.now in
    let so_far = c.levels.levels.items in
    let here = c.levels.here.items in
    let left = c.levels.invariant in
    let end = c.levels-test.levels in
    let whole : IsEnough (view root) (end.items ++ Whole ∷ []) =
    elim c.levels-test.branch [
      | goal.else-levels-test w ↦
          subst (λ v. IsEnough (view root) (v.items ++ Whole ∷ [])) (sym w.levels-is)
          (left (Whole ∷ []) (whole_for_all (schemas_seen here) []))
      | goal.then-levels-test+else-is_empty+in_ok-asked+then-asked w ↦
          subst (λ v. IsEnough (view root) (v.items ++ Whole ∷ [])) (sym w.levels-is)
          (left (Whole ∷ []) (whole_for_all (schemas_seen here) []))
      | goal.then-levels-test+else-is_empty+in_ok-asked+else-asked+in_ok-push-2+then-asked-2 w ↦
          subst (λ v. IsEnough (view root) (v.items ++ Whole ∷ [])) (sym w.levels-is)
          (at_whole_items root so_far w.push-in-levels.new.self.items here w.in_ok-asked.asked
          (subst (λ vs. AsksAll w.in_ok-asked.asked (schemas_seen vs)) w.deref.ensures.value w.in_ok-asked.ensures)
          w.if-asked.false w.in_ok-push-2.ensures.items left)
    ] in
    subst (IsEnough (view root)) (sym c.in_ok-push-3.ensures.items) whole
