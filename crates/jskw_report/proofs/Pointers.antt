-- The pointer of a stack of indices.
use Rattle.std.proofs.Common.{◌≡◌, ℕ, List, [], ◌∷◌, ◌++◌, ap, ◌∙◌, append-nil}
use Rattle.std.proofs.lemmas.Grind.{flat_map-append}
use Rattle.jskw_value.specs.Pointer.{index_token, item_location}
use Rattle.jskw_report.specs.Paths.{path_of}

-- with one index more on top it leads one item further down
pub path_of_push : (is : List ℕ) (i : ℕ) → path_of (is ++ i ∷ []) ≡ item_location (path_of is) i
path_of_push is i = flat_map-append index_token is (i ∷ []) ∙ ap (λ t. path_of is ++ t) (append-nil (index_token i))
