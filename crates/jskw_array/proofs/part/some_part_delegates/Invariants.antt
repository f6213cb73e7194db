use Rattle.std.proofs.Common.{◌≡◌, drop}
use Rattle.jskw_array.specs.Words.{keywords_delegate, keywords_of}
use Rattle.jskw_array.proofs.part.some_part_delegates.Given as goal

abbrev pub invariant-loop-part : goal.invariant-loop-part
invariant-loop-part g l =
    keywords_delegate (keywords_of l.parts) ≡ keywords_delegate (keywords_of (drop l.part-index l.parts))
