-- Laws of reading.
use Rattle.std.specs.Prelude.{◌≡◌, ℕ, ◌*◌, ◌^◌, ◌==◌, ℤ, List, drop, slice_index, Bool, true, false, ◌&&◌}
use Rattle.std.specs.Prelude.{if◌then◌else◌, IsTrue, unsigned_abs, Some, None, Ok}
use Rattle.std.specs.Option.{option_map_or}
use Rattle.std.specs.Str.{is_utf8}
use Rattle.fast_float.specs.Text.{Parts, scan, minus, digits_of, tens_up, tens_down, with_sign}
use Rattle.json.specs.Json as json
use Rattle.serde_json.specs.Data.{Data}
use Rattle.serde_json.specs.Read as serde
use Rattle.jskw_value.specs.Number.{exact, is_exact, is_decimal}
use Rattle.jskw_value.specs.Serde as values
use Rattle.jskw_text.specs.NumberText.{number_of}
use Rattle.jskw_text.specs.Reading.{document, reading}

-- `serde_json` reads the text of a number as an integer, and as no float
abbrev pub reads_as_integer : List ℕ → Bool
reads_as_integer s = option_map_or (λ n. is_exact (values.num_of n)) (serde.number_of s) false

-- each number is an integer
abbrev mutual
  pub has_integers : json.Json → Bool
  has_integers json.null = true
  has_integers (json.boolean b) = true
  has_integers (json.number s) = reads_as_integer s
  has_integers (json.string s) = true
  has_integers (json.array js) = items_have_integers js
  has_integers (json.object ms) = members_have_integers ms

  -- of the items
  pub items_have_integers : json.Items → Bool
  items_have_integers json.no_items = true
  items_have_integers (json.item j js) = has_integers j && items_have_integers js

  -- of the members
  pub members_have_integers : json.Members → Bool
  members_have_integers json.no_members = true
  members_have_integers (json.member k j ms) = has_integers j && members_have_integers ms

-- where each number of a text is an integer, its tree is that of the value that `serde_json` reads
abbrev pub ReadsIntegersAlike : Type 0
ReadsIntegersAlike =
    (text : List ℕ) (j : json.Json) → IsTrue (is_utf8 text) → document text ≡ Some j → IsTrue (has_integers j)
    → (d : Data) × (serde.read text ≡ Some d) × (reading text ≡ Some (Ok (values.tree_of d)))

-- ---- the value of a number

-- whether the text of a number begins with a minus
abbrev pub is_negative : List ℕ → Bool
is_negative s = slice_index s 0 == minus

-- its parts without the minus
abbrev pub parts_of : List ℕ → Parts
parts_of s = if is_negative s then scan (drop 1 s) else scan s

-- c / 10 ^ k is the number that a sign and parts denote, digits_of p * 10 ^ tens_up p / 10 ^ tens_down p
pub record Denotes (negative : Bool) (p : Parts) (c : ℤ) (k : ℕ) : Type 0 where
  pub sign : c ≡ with_sign negative (unsigned_abs c)
  pub size : unsigned_abs c * 10 ^ tens_down p ≡ digits_of p * 10 ^ tens_up p * 10 ^ k

-- the decimal that a text denotes has the very value of the text, and is missing only where the text is not exact
pub record DecimalsAreExact : Type 0 where
  pub same_value : (s : List ℕ) (c : ℤ) (k : ℕ) → number_of s ≡ Some (exact c k)
      → Denotes (is_negative s) (parts_of s) c k
  -- it is written as an integer exactly where the text has neither a point nor an exponent
  pub same_form : (s : List ℕ) (c : ℤ) (k : ℕ) → number_of s ≡ Some (exact c k)
      → (k == 0) ≡ serde.is_integer (parts_of s)
  -- only one that is written as an integer could stand for what has a point or an exponent and is not read
  pub none_missed : (s : List ℕ) (c : ℤ) (k : ℕ) → number_of s ≡ None → is_decimal c k ≡ true
      → Denotes (is_negative s) (parts_of s) c k
      → (k ≡ 0) × (serde.is_integer (parts_of s) ≡ false)
