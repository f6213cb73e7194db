-- Steps of a text that grows.
use Rattle.std.proofs.Common.{◌≡◌, ℕ, ◌+◌, ◌≤◌, List, [], ◌++◌, length, Option, Some, None, sym, ap}
use Rattle.std.proofs.Common.{arith}
use Rattle.std.proofs.Common.{append-nil, length-append}
use Rattle.std.proofs.lemmas.Str.{length-encode, len_utf8_bounds}
use Rattle.std.specs.Char.{encode_utf8}
use Rattle.jskw_value.proofs.Texts.{extends_further}
use Rattle.jskw_sentence.specs.Growth.{GrowsWithin}

-- nothing came
pub grown_by_nothing : (a : List ℕ) (r : Option ℕ) → GrowsWithin a r a r
grown_by_nothing a r = record { extends = ([], sym (append-nil a)); bounded = omega arith }

-- one step, and then another
pub grown_further : (a b c : List ℕ) (r s t : Option ℕ) → GrowsWithin a r b s → GrowsWithin b s c t
    → GrowsWithin a r c t
grown_further a b c r s t h k = record {
  extends = extends_further a b c h.extends k.extends;
  bounded = omega (arith, h.bounded, k.bounded);
}

-- a piece came for which there is room
pub grown_by_piece : (a b bs : List ℕ) (n m : ℕ) → b ≡ a ++ bs → length bs + m ≤ n → GrowsWithin a (Some n) b (Some m)
grown_by_piece a b bs n m e h = record {
  extends = (bs, e);
  bounded = omega (arith, ap length e, length-append a bs, h);
}

-- a character came, which has at most four bytes
pub grown_by_char : (a b : List ℕ) (c n m : ℕ) → b ≡ a ++ encode_utf8 c → m + 1 ≡ n → GrowsWithin a (Some n) b (Some m)
grown_by_char a b c n m e h =
    let bounds = len_utf8_bounds c in
    record {
      extends = (encode_utf8 c, e);
      bounded = omega (arith, ap length e, length-append a (encode_utf8 c), length-encode c, bounds.1, h);
    }

-- the mark of a cut came
pub grown_by_cut : (a b bs : List ℕ) (n : ℕ) → b ≡ a ++ bs → length bs ≤ 2 → GrowsWithin a (Some n) b None
grown_by_cut a b bs n e h = record {
  extends = (bs, e);
  bounded = omega (arith, ap length e, length-append a bs, h);
}

pub ruleset steps = (grown_by_nothing, grown_further)

pub ruleset pieces = (grown_by_nothing, grown_further, grown_by_piece, grown_by_char, grown_by_cut)
