-- Numbers that equal trees share, under any seed: of each tree what a budget reaches, its beginning.
use Rattle.std.specs.Prelude.{ℕ, zero, suc, ◌+◌, ◌-◌, ◌*◌, ◌/◌, ◌%◌, ◌^◌, ◌==◌, ◌&&◌, ◌||◌, min, max, nat_le, ℤ, pos}
use Rattle.std.specs.Prelude.{negsuc, List, [], ◌∷◌, length, take, drop, Bool, true, not, unsigned_abs, if◌then◌else◌}
use Rattle.std.specs.Int.{w64, from_le_bytes}
use Rattle.std.specs.Int.Bits.{bit_or, bit_xor}
use Rattle.jskw_value.specs.Number.{Num, exact, float}
use Rattle.jskw_value.specs.PropertyName.{padded}
use Rattle.jskw_value.specs.Tree.{Tree, null, boolean, number, string, array, object, Items, no_items, item, Members}
use Rattle.jskw_value.specs.Tree.{no_members, member, item_list, member_list, has_name}

-- ---- mixing

-- the halves of a product of two words, one folded onto the other
unfoldable pub folded : ℕ → ℕ
folded p = bit_xor (p % 2 ^ 64) (p / 2 ^ 64)

-- two words mixed into a hash
unfoldable pub stirred : ℕ → ℕ → ℕ → ℕ
stirred h x y =
    ((h * 17069020487931167987 % 2 ^ 64
    + folded (bit_xor (bit_xor h x) 11562461410679940143 * bit_or (bit_xor y 16646288086500911323) 1)) % 2 ^ 64
    + folded (bit_xor (bit_xor h y) 10285213230658275043 * bit_or (bit_xor x 6384245875588680899) 1)) % 2 ^ 64

-- ---- texts and numbers

-- up to eight bytes from an index on, as a number
unfoldable pub word_at : List ℕ → ℕ → ℕ
word_at s i = from_le_bytes w64 (padded (take 8 (drop i s)))

-- so many pairs of words from the front, mixed in
abbrev pub pairs_stirred : ℕ → ℕ → List ℕ → ℕ
pairs_stirred zero h s = h
pairs_stirred (suc n) h s = stirred (pairs_stirred n h s) (word_at s (16 * n)) (word_at s (16 * n + 8))

-- what the hash of a text of so many bytes begins with
abbrev pub text_begun : ℕ → ℕ → ℕ
text_begun seed count = bit_xor (bit_xor 9600629759793949339 count) seed

-- of a text: its length, its first pairs of words, no more than the budget, and its last pair
unfoldable pub text_fingerprint : ℕ → ℕ → List ℕ → ℕ
text_fingerprint seed budget s =
    stirred (pairs_stirred (min budget ((length s - 1) / 16)) (text_begun seed (length s)) s)
    (word_at s (length s - 16)) (word_at s (length s - 8))

-- of a sign
abbrev pub sign_fingerprint : ℤ → ℕ
sign_fingerprint (pos n) = 6
sign_fingerprint (negsuc n) = 7

-- of n / 10^k, mixed into a hash: the whole part, and the rest in parts of 10^18
unfoldable pub parts_fingerprint : ℕ → ℕ → ℕ → ℕ
parts_fingerprint h n k = stirred h (n / 10 ^ k) (n % 10 ^ k * 10 ^ 18 / 10 ^ k)

-- of a number by its mathematical value; floats have one fingerprint
abbrev pub number_fingerprint : ℕ → Num → ℕ
number_fingerprint seed (exact c k) = parts_fingerprint (bit_xor (sign_fingerprint c) seed) (unsigned_abs c) k
number_fingerprint seed float = 8

-- ---- trees

-- the budget that reaches all of a tree
abbrev pub unlimited : ℕ
unlimited = 2 ^ 64 - 1

-- what each of so many items or members gets of a budget
abbrev pub share : ℕ → ℕ → ℕ
share budget count = if budget == unlimited then unlimited else budget / max count 2

-- items in their order, the first so many of them; members in any order, all of them or none
abbrev mutual
  pub fingerprint : ℕ → ℕ → Tree → ℕ
  fingerprint seed budget null = 1
  fingerprint seed budget (boolean b) = if b then 3 else 2
  fingerprint seed budget (number n) = number_fingerprint seed n
  fingerprint seed budget (string s) = text_fingerprint seed budget s
  fingerprint seed budget (array ts) =
      items_fingerprint seed (share budget (length (item_list ts))) budget
      (stirred (bit_xor 4 seed) (length (item_list ts)) 0) ts
  fingerprint seed budget (object ms) = stirred 5 (length (member_list ms))
      (if nat_le (length (member_list ms)) budget
      then members_fingerprint seed (share budget (length (member_list ms))) ms % 2 ^ 64 else 0)

  -- the first n items, mixed into a hash
  pub items_fingerprint : ℕ → ℕ → ℕ → ℕ → Items → ℕ
  items_fingerprint seed budget zero h ts = h
  items_fingerprint seed budget (suc n) h no_items = h
  items_fingerprint seed budget (suc n) h (item t ts) =
      items_fingerprint seed budget n (stirred h (fingerprint seed budget t) 4) ts

  -- the sum over the members, each mixed with the seed before
  pub members_fingerprint : ℕ → ℕ → Members → ℕ
  members_fingerprint seed budget no_members = 0
  members_fingerprint seed budget (member k t ms) =
      stirred (bit_xor 5 seed) (text_fingerprint seed budget k) (fingerprint seed budget t)
      + members_fingerprint seed budget ms

-- the same of a list of items
abbrev pub list_fingerprint : ℕ → ℕ → ℕ → List Tree → ℕ
list_fingerprint seed budget h [] = h
list_fingerprint seed budget h (t ∷ ts) = list_fingerprint seed budget (stirred h (fingerprint seed budget t) 4) ts

-- the same of a member
abbrev pub member_fingerprint : ℕ → ℕ → List ℕ × Tree → ℕ
member_fingerprint seed budget m =
    stirred (bit_xor 5 seed) (text_fingerprint seed budget m.0) (fingerprint seed budget m.1)

-- ---- names

-- no two of the members have one name
abbrev pub own_names_distinct : Members → Bool
own_names_distinct no_members = true
own_names_distinct (member k t ms) = not (has_name (object ms) k) && own_names_distinct ms

-- no object that the budget reaches has a name twice
abbrev mutual
  pub is_distinct_within : ℕ → Tree → Bool
  is_distinct_within budget (array ts) =
      items_distinct_within (share budget (length (item_list ts))) budget ts
  is_distinct_within budget (object ms) = own_names_distinct ms
      && (not (nat_le (length (member_list ms)) budget)
      || members_distinct_within (share budget (length (member_list ms))) ms)
  is_distinct_within budget _ = true

  -- no such object in the first n items
  pub items_distinct_within : ℕ → ℕ → Items → Bool
  items_distinct_within budget zero ts = true
  items_distinct_within budget (suc n) no_items = true
  items_distinct_within budget (suc n) (item t ts) =
      is_distinct_within budget t && items_distinct_within budget n ts

  -- no such object in the members
  pub members_distinct_within : ℕ → Members → Bool
  members_distinct_within budget no_members = true
  members_distinct_within budget (member k t ms) =
      is_distinct_within budget t && members_distinct_within budget ms
