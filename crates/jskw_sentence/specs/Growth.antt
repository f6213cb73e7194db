-- Texts that grow by a bounded part.
use Rattle.std.specs.Prelude.{ℕ, ◌+◌, ◌*◌, ◌≤◌, List, length, Option, Some, None}
use Rattle.jskw_value.specs.Text.{Extends}

-- how many bytes may still come where so many characters find room: at most 4 for each, and `..`
abbrev pub bytes_left : Option ℕ → ℕ
bytes_left None = 0
bytes_left (Some n) = 4 * n + 2

-- the new text begins with the old one, and the room that is left is less by what came
pub record GrowsWithin (old : List ℕ) (before : Option ℕ) (new : List ℕ) (after : Option ℕ) : Type 0 where
  pub extends : Extends old new
  pub bounded : length new + bytes_left after ≤ length old + bytes_left before

-- the new text begins with the old one, and has at most so many bytes more
pub record AppendsAtMost (most : ℕ) (old new : List ℕ) : Type 0 where
  pub extends : Extends old new
  pub bounded : length new ≤ length old + most
