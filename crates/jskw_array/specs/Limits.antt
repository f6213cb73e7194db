-- How many items must match `contains`, and the unit by those that match.
use Rattle.std.specs.Prelude.{ℕ, ◌+◌, ◌-◌, ◌^◌, min, List, [], ◌∷◌, true, Option, Some, None, if◌then◌else◌}
use Rattle.std.specs.Borrow.{Bor}
use Rattle.jskw_value.specs.Pointer.{Pointer}
use Rattle.jskw_value.specs.Tree.{Tree, is_array}
use Rattle.jskw_report.specs.Evaluation.{Evaluation, Result, indices, invalid_unit}
use Rattle.jskw_report.specs.Fail.{failing_bound}
use Rattle.jskw_report.specs.Keyword.{Bounds}
use Rattle.jskw_report.specs.Kind.{Contains, keyword_of}

-- how many matches decide whether the bounds are kept: one more than the upper bound, or else the lower bound
abbrev pub first_beyond : ℕ → Option ℕ → ℕ
first_beyond lower None = lower
first_beyond lower (Some upper) = min (upper + 1) (2 ^ 64 - 1)

abbrev pub deciding_count : Bounds → ℕ
deciding_count b = first_beyond b.lower b.upper

-- a keyword location as a list, empty if there is none
abbrev pub locations_of : Option (Bor Pointer) → List Pointer
locations_of None = []
locations_of (Some q) = q.now ∷ []

-- the keyword locations at which `contains` fails of the tree, if n of its items match
abbrev pub failing_locations : Bounds → ℕ → Tree → List Pointer
failing_locations b n t = if is_array t then failing_bound b n else []

-- the unit, by where `contains` fails, the indices of the items that match and their nodes
abbrev pub matching_result : List Pointer → List ℕ → List Evaluation → Result
matching_result [] is es = record { valid = true; annotation = Some (indices is); descriptions = []; children = es }
matching_result (q ∷ qs) is es = invalid_unit (keyword_of Contains ∷ [])
