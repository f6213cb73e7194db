use Rattle.std.proofs.Common.{◌≡◌, ◌++◌, drop, map}
use Rattle.std.specs.Prelude.{string_bytes}
use Rattle.jskw_check.proofs.arguments.push_all.Given as goal

-- what is appended, with what is left
abbrev pub invariant-loop-word : goal.invariant-loop-word
invariant-loop-word l =
    map string_bytes l.files.items ++ map string_bytes (drop l.word-index l.words)
    ≡ map string_bytes l.initial.files.items ++ map string_bytes l.words
