use Rattle.std.proofs.Common.{rules, ◌≡◌, ◌≢◌, ◌∙◌, ◌++◌, ◌∷◌, [], List, ℕ, ap, subst}
use Rattle.std.specs.Option.{MatchOption}
use Rattle.std.proofs.lemmas.Bool.Decides.{Decides-eqb}
use Rattle.std.proofs.lemmas.Slice.Eq.{strip_prefix_is}
use Rattle.jskw_report.proofs.paths.keyword_location.is_joined.Goals as goal

pub returns : goal.returns
returns c = λ equal.
    let text = c.args.text.now in
    let above = c.args.above.now in
    let step = c.in-Some.step.now in
    let rest = c.in-Some-strip_prefix.rest.now in
    let first : text ≡ above ++ step =
    subst (λ r. MatchOption r ((xs : List ℕ) → text ≢ above ++ xs) (λ x. text ≡ above ++ x.now)) c.in-Some.is
    (strip_prefix_is Decides-eqb text above c.strip_prefix.result c.strip_prefix.ensures.cases) in
    let second : step ≡ 47 ∷ rest =
    subst (λ r. MatchOption r ((xs : List ℕ) → step ≢ 47 ∷ xs) (λ x. step ≡ 47 ∷ x.now)) c.in-Some-strip_prefix.is
    (strip_prefix_is Decides-eqb step (47 ∷ []) c.strip_prefix-2.result c.strip_prefix-2.ensures.cases) in
    let third : rest ≡ c.args.name.now = search rules in
    first ∙ ap (λ xs. above ++ xs) (second ∙ ap (λ xs. 47 ∷ xs) third)
