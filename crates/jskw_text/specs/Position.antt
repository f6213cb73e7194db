-- Lines and columns, as editors show them.
use Rattle.std.specs.Prelude.{◌≡◌, ◌≤◌, ℕ, suc, ◌==◌, ◌&&◌, List, [], ◌∷◌, length, take, Bool, nat_le, nat_lt}
use Rattle.std.specs.Prelude.{if◌then◌else◌}
use Rattle.jskw_text.specs.declared.position.Position.{Position}

-- the byte goes on with a character of UTF-8 that began before it
abbrev pub continues : ℕ → Bool
continues b = nat_le 128 b && nat_lt b 192

-- the line feeds
abbrev pub line_feeds : List ℕ → ℕ
line_feeds [] = 0
line_feeds (b ∷ bs) = if b == 10 then suc (line_feeds bs) else line_feeds bs

-- the column behind these bytes, which begin in column n: one more for each character, and 1 behind a line feed
abbrev pub column_after : ℕ → List ℕ → ℕ
column_after n [] = n
column_after n (b ∷ bs) = column_after (if b == 10 then 1 else (if continues b then n else suc n)) bs

-- the line and the column of the byte at an offset, from 1 on
abbrev pub line_at : ℕ → List ℕ → ℕ
line_at offset text = suc (line_feeds (take offset text))

abbrev pub column_at : ℕ → List ℕ → ℕ
column_at offset text = column_after 1 (take offset text)

-- a place in these bytes, or at their end, with its line and column
pub record IsPlaceIn (bytes : List ℕ) (p : Position) : Type 0 where
  pub within : p.offset ≤ length bytes
  pub line : p.line ≡ line_at p.offset bytes
  pub column : p.column ≡ column_at p.offset bytes
