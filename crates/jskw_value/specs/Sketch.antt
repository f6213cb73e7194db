-- A sketch of fingerprints: each sets some bits in three of its words, so what is not set was not marked.
use Rattle.std.specs.Prelude.{ℕ, ◌*◌, ◌/◌, ◌%◌, ◌^◌, ◌==◌, ◌&&◌, List, length, get_or, Bool}
use Rattle.std.specs.Int.Bits.{bit_or, bit_xor}

-- the word among n that the lower half of a number picks
unfoldable pub word_index : ℕ → ℕ → ℕ
word_index p n = p % 2 ^ 32 * n / 2 ^ 32

-- the bits that a fingerprint sets in each of its words: five, of which some may be the same
unfoldable pub marks : ℕ → ℕ
marks p =
    bit_or (bit_or (bit_or (bit_or (1 * 2 ^ (p % 64) % 2 ^ 64) (1 * 2 ^ (p / 2 ^ 6 % 64) % 2 ^ 64))
    (1 * 2 ^ (p / 2 ^ 9 % 64) % 2 ^ 64))
    (1 * 2 ^ (p / 2 ^ 32 % 64) % 2 ^ 64)) (1 * 2 ^ (p / 2 ^ 38 % 64) % 2 ^ 64)

-- whether bits are all set in the word that a number picks
unfoldable pub is_set : List ℕ → ℕ → ℕ → Bool
is_set words p bits =
    bit_or (get_or words (word_index p (length words)) 0) bits == get_or words (word_index p (length words)) 0

-- whether a fingerprint is marked: its bits are set in three words, of which each half picks one, and so do both
-- together
unfoldable pub is_marked : List ℕ → ℕ → Bool
is_marked words p =
    is_set words (p / 2 ^ 32) (marks p) && is_set words p (marks p) && is_set words (bit_xor p (p / 2 ^ 32)) (marks p)
