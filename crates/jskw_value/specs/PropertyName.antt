-- What tells most texts apart at a glance.
use Rattle.std.specs.Prelude.{ℕ, ◌-◌, ◌*◌, ◌%◌, ◌^◌, List, ◌++◌, length, take, drop, replicate}
use Rattle.std.specs.Int.{w64, from_le_bytes}
use Rattle.std.specs.Int.Bits.{bit_xor}
use Rattle.jskw_value.specs.declared.property_name.KeyHead.{KeyHead}

-- the bytes, and behind fewer than eight of them zeros, up to eight
abbrev pub padded : List ℕ → List ℕ
padded bs = bs ++ replicate (8 - length bs) 0

-- the length in bytes, and the first and the last eight bytes as numbers, the lowest byte first
unfoldable pub head_of : List ℕ → KeyHead
head_of s =
    record {
      length =
          length s;
      first = from_le_bytes w64 (padded (take 8 s));
      last = from_le_bytes w64 (padded (drop (length s - 8) s));
    }

-- a hash of the head
unfoldable pub hash : KeyHead → ℕ
hash h = bit_xor (bit_xor h.first (h.last * 11400714819323198485 % 2 ^ 64)) h.length
