use Rattle.std.proofs.Common.{◌≡◌, ◌+◌, ◌≤◌, drop}
use Rattle.jskw_text.specs.Position.{line_feeds, column_after}
use Rattle.jskw_text.proofs.position.position_of.Given as goal

-- what is left leads to the same line and column; neither is greater than the bytes so far
abbrev pub invariant-loop-byte : goal.invariant-loop-byte
invariant-loop-byte l =
    (l.line + line_feeds (drop l.byte-index l.byte-items) ≡ 1 + line_feeds l.byte-items)
    × (column_after l.column (drop l.byte-index l.byte-items) ≡ column_after 1 l.byte-items)
    × (l.line ≤ l.byte-index + 1) × (l.column ≤ l.byte-index + 1)
