-- Items in doubt, and the numbers by which items are sorted in the search for equal ones.
use Rattle.std.specs.Prelude.{ℕ, ◌==◌, ◌&&◌, ◌||◌, not, List, length, Bool, Option, None, Some, if◌then◌else◌}
use Rattle.jskw_value.specs.Fingerprint.{fingerprint, is_distinct_within, unlimited}
use Rattle.jskw_value.specs.Sketch.{is_marked}
use Rattle.jskw_value.specs.Tree.{Tree}

-- the budget that reaches the beginning of an item
abbrev pub beginning : ℕ
beginning = 16

-- whether an item is in doubt: its beginning is marked, or there are no marks
abbrev pub is_in_doubt : List ℕ → Tree → Bool
is_in_doubt marks t = length marks == 0 || is_marked marks (fingerprint 0 beginning t)

-- the fingerprint of its beginning, if it is not in doubt
abbrev pub undoubted : List ℕ → Tree → Option ℕ
undoubted marks t = if is_in_doubt marks t then None else Some (fingerprint 0 beginning t)

-- the fingerprint of the whole item under a seed if it is in doubt, else that of its beginning
abbrev pub key : ℕ → List ℕ → Tree → ℕ
key seed marks t = if is_in_doubt marks t then fingerprint seed unlimited t else fingerprint 0 beginning t

-- no object that these fingerprints look at has a name twice
abbrev pub is_distinct_for : List ℕ → Tree → Bool
is_distinct_for marks t =
    (length marks == 0 || is_distinct_within beginning t)
    && (not (is_in_doubt marks t) || is_distinct_within unlimited t)
