use Rattle.std.proofs.Common.{◌≡◌, ℕ, ◌++◌, List, [], ◌∷◌, map, string_bytes, append-nil, append_assoc, sym, ap, ◌∙◌}
use Rattle.std.proofs.lemmas.List.{map-append}
use Rattle.jskw_text.specs.Stop.{location_of}
use Rattle.jskw_text.proofs.tree.with_step.Goals as goal

-- the last of the steps comes first
outer_step : (ss : List (List ℕ)) (s : List ℕ) → location_of (ss ++ s ∷ []) ≡ s ++ location_of ss
outer_step [] s = sym (append-nil s)
outer_step (x ∷ ss) s = ap (λ l. l ++ x) (outer_step ss s) ∙ append_assoc s (location_of ss) x

pub returns-in-Ok : goal.returns-in-Ok
returns-in-Ok c =
    ap (λ ss. location_of (map string_bytes ss)) c.in-Ok.ensures.items
    ∙ ap location_of (map-append string_bytes c.args.steps.items (c.args.step ∷ []))
    ∙ outer_step (map string_bytes c.args.steps.items) (string_bytes c.args.step)
