-- Words of the search for equal items.
use Rattle.std.specs.Prelude.{◌≡◌, ℕ, ◌+◌, ◌<◌, ◌≤◌, List, length, true, false, Option, Some, option_and_then}
use Rattle.std.specs.Prelude.{slice_get, slice_index}
use Rattle.std.specs.List.Sorted.{IsNonDecreasing, IsPermutation}
use Rattle.jskw_value.specs.Doubt.{is_distinct_for, key}
use Rattle.jskw_value.specs.Equality.{equal}
use Rattle.jskw_value.specs.Fingerprint.{fingerprint, is_distinct_within}
use Rattle.jskw_value.specs.Number.{u64_of, written_integer}
use Rattle.jskw_value.specs.Sketch.{is_marked}
use Rattle.jskw_value.specs.Tree.{Tree, as_number}

-- none of the items from `start` up to `end` is equal to the one at the index
pub record IsNewAt (start end index : ℕ) (ts : List Tree) : Type 0 where
  pub differs : (i : ℕ) (t u : Tree) → start ≤ i → i < end → slice_get ts i ≡ Some t → slice_get ts index ≡ Some u
      → equal t u ≡ false

-- none of the items from `start` up to `end` is equal to a later one
pub record IsUniqueIn (start end : ℕ) (ts : List Tree) : Type 0 where
  pub differ : (i j : ℕ) (t u : Tree) → start ≤ i → i < end → i < j → slice_get ts i ≡ Some t → slice_get ts j ≡ Some u
      → equal t u ≡ false

-- what the search for the items of that block knows, with the items up to n seen
pub record IsToldOf (start end budget n : ℕ) (sketch : List ℕ) (ts : List Tree) : Type 0 where
  -- those of the block are marked
  pub marked : (i : ℕ) (t : Tree) → start ≤ i → i < end → i < n → slice_get ts i ≡ Some t
      → is_marked sketch (fingerprint 0 budget t) ≡ true
  -- no object that a fingerprint looked at has a name twice
  pub distinct : (i : ℕ) (t : Tree) → start ≤ i → i < n → slice_get ts i ≡ Some t → is_distinct_within budget t ≡ true
  -- none of those of the block is equal to a later one
  pub differ : (i j : ℕ) (t u : Tree) → start ≤ i → i < end → i < j → j < n → slice_get ts i ≡ Some t
      → slice_get ts j ≡ Some u → equal t u ≡ false

-- ---- by their order

-- the integer from 0 to 2^64 - 1 that a tree is
abbrev pub natural_of : Tree → Option ℕ
natural_of t = option_and_then u64_of (option_and_then written_integer (as_number t))

-- the first n items are such integers below `least`, and differ
pub record AreRising (n least : ℕ) (ts : List Tree) : Type 0 where
  pub below : (i : ℕ) (t : Tree) → i < n → slice_get ts i ≡ Some t → (a : ℕ) × (natural_of t ≡ Some a) × (a < least)
  pub differ : (i j : ℕ) (t u : Tree) → i < j → j < n → slice_get ts i ≡ Some t → slice_get ts j ≡ Some u
      → equal t u ≡ false

-- ---- by sorted keys

-- none of the items from `low` up to `high` is equal to one before it of those from `start` up to `end`
pub record AreNewIn (start end low high : ℕ) (ts : List Tree) : Type 0 where
  pub differ : (i j : ℕ) (t u : Tree) → start ≤ i → i < end → i < j → low ≤ j → j < high → slice_get ts i ≡ Some t
      → slice_get ts j ≡ Some u → equal t u ≡ false

-- the first n numbers are the keys of the items from `start` on, under a seed, by marks of what is in doubt
pub record AreKeysFrom (seed : ℕ) (marks : List ℕ) (start n : ℕ) (keys : List ℕ) (ts : List Tree) : Type 0 where
  pub each : (i : ℕ) (t : Tree) → i < n → slice_get ts (start + i) ≡ Some t → slice_index keys i ≡ key seed marks t
  -- no object that a key looks at has a name twice
  pub distinct : (i : ℕ) (t : Tree) → i < n → slice_get ts (start + i) ≡ Some t → is_distinct_for marks t ≡ true

-- the numbers are the keys of as many items from `start` on, under a seed, in ascending order
pub record AreSortedKeys (seed : ℕ) (marks : List ℕ) (start : ℕ) (keys : List ℕ) (ts : List Tree) : Type 0 where
  pub in_order : List ℕ
  pub are_keys : AreKeysFrom seed marks start (length in_order) in_order ts
  pub permutation : IsPermutation in_order keys
  pub sorted : IsNonDecreasing keys

-- each of the first n numbers is marked in a sketch
abbrev pub AreMarked : ℕ → List ℕ → List ℕ → Type 0
AreMarked n keys sketch = (i : ℕ) → i < n → is_marked sketch (slice_index keys i) ≡ true

-- p is none of the numbers
abbrev pub IsNotAmong : ℕ → List ℕ → Type 0
IsNotAmong p xs = (i : ℕ) → i < length xs → slice_index xs i ≡ p → ⊥

-- p is at most one of them
abbrev pub IsOnceAtMost : ℕ → List ℕ → Type 0
IsOnceAtMost p xs = (i j : ℕ) → i < j → j < length xs → slice_index xs i ≡ p → slice_index xs j ≡ p → ⊥
