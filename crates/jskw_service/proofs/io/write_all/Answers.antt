-- what a write took joins what was written before it
use Rattle.std.proofs.Common.{◌≡◌, ◌≤◌, ◌∙◌, sym, ap, ℕ, ◌-◌, ◌+◌, List, ◌++◌, length, take, drop, subst, rules}
use Rattle.std.proofs.Math.Seq.{take-add}
use Rattle.std.proofs.lemmas.List.{take-take}
use Rattle.std.specs.Prelude.{Option}
use Rattle.std.specs.Io.KnownBytes.{Appends}
use Rattle.std.proofs.KnownBytes.{Appends-trans}
use Rattle.jskw_service.proofs.io.write_all.Goals as goal

goes_on : (a b d : Option (List ℕ)) (text : List ℕ) (done n : ℕ) → Appends a b (take done text)
    → Appends b d (take n (take (length text - done) (drop done text)))
    → n ≤ length text - done → Appends a d (take (done + n) text)
goes_on a b d text done n before now fits =
    let joined : take done text ++ take n (take (length text - done) (drop done text)) ≡ take (done + n) text =
    ap (λ l. take done text ++ l) (take-take n (length text - done) (drop done text) fits)
    ∙ sym (take-add done n text) in
    subst (Appends a d) joined (Appends-trans a b d _ _ before now)

pub loop-done-preserved : goal.loop-done-preserved
loop-done-preserved g c = record {
  within = search rules;
  bytes =
      goes_on _ _ _ c.args.bytes.now c.loop-done.done c.in_ok-done.field-0 c.loop-done.invariant.bytes
      c.in_ok-done.ensures.bytes (search rules);
  works = search rules;
}
