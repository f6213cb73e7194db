use Rattle.std.proofs.Common.{◌≡◌, ◌-◌, ◌%◌, ◌≤◌, length, take, true}
use Rattle.jskw_documents.specs.Streams.{is_in_line}
use Rattle.jskw_documents.proofs.lines.blocks_without.Given as goal

-- no line feed so far, in whole blocks
abbrev pub invariant-strides : goal.invariant-strides
invariant-strides l = record {
  whole : l.at % 32 ≡ 0;
  within : l.at ≤ length l.bytes - length l.bytes % 32;
  inside : is_in_line (take l.at l.bytes) ≡ true;
}

abbrev pub decreases-strides : goal.decreases-strides
decreases-strides l = length l.bytes - l.at
