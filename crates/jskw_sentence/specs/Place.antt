-- How a place in an instance is written for people.
use Rattle.std.specs.Prelude.{List, [], ◌∷◌, ℕ, codes}
use Rattle.jskw_value.specs.Pointer.{Pointer}

-- the root by a word, since its pointer is empty
abbrev pub place_shown : Pointer → List ℕ
place_shown [] = codes "(root)"
place_shown (b ∷ bs) = b ∷ bs
