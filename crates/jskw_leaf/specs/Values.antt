-- Options of any types, beside their fingerprints.
use Rattle.std.specs.Prelude.{◌≡◌, ℕ, ◌≤◌, ◌<◌, ◌≢◌, ◌==◌, ◌&&◌, List, length, Bool, false, slice_index_or}
use Rattle.std.specs.List.{list_any}
use Rattle.jskw_value.specs.Equality.{equal}
use Rattle.jskw_value.specs.Fingerprint.{fingerprint, is_distinct_within, unlimited}
use Rattle.jskw_value.specs.Serde.{value_tree}
use Rattle.jskw_value.specs.Tree.{Tree}
use Rattle.jskw_leaf.specs.declared.enum_.values.FingerprintedValue.{FingerprintedValue}

-- the option has the fingerprint of its value under the seed
abbrev pub is_fingerprinted : ℕ → FingerprintedValue → Bool
is_fingerprinted seed o =
    (o.fingerprint == fingerprint seed unlimited (value_tree o.value))
    && is_distinct_within unlimited (value_tree o.value)

-- one of the options equals the tree
abbrev pub has_value : List FingerprintedValue → Tree → Bool
has_value os t = list_any (λ o. equal (value_tree o.value) t) os

-- an option is equal to the last one before it
abbrev pub is_repeat : FingerprintedValue → FingerprintedValue → Bool
is_repeat last o = (o.fingerprint == last.fingerprint) && equal (value_tree last.value) (value_tree o.value)

-- options with the fingerprint p come first: from one on that has another, none equals the tree
abbrev pub IsRun : ℕ → Tree → List FingerprintedValue → Type 0
IsRun p t os =
    (i j : ℕ) (d : FingerprintedValue) → i ≤ j → j < length os → (slice_index_or os i d).fingerprint ≢ p
    → equal (value_tree (slice_index_or os j d).value) t ≡ false
