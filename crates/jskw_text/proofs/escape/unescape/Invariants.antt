use Rattle.std.proofs.Common.{◌≡◌, ◌-◌, ◌≤◌, drop, length, string_bytes}
use Rattle.std.specs.Str.{IsCharBoundary}
use Rattle.json.specs.Lex.{in_string, lex}
use Rattle.json.specs.Text.{content, plain, prepend}
use Rattle.jskw_text.proofs.escape.unescape.Given as goal

abbrev pub invariant-runs : goal.invariant-runs
invariant-runs l =
    (content plain (drop l.start l.text) ≡ prepend (string_bytes l.content) (content plain (drop l.at l.text)))
    × (lex in_string (drop l.start l.text) ≡ lex in_string (drop l.at l.text)) × IsCharBoundary l.text l.at
    × (l.start ≤ l.at)

abbrev pub decreases-runs : goal.decreases-runs
decreases-runs l = length l.text - l.at
