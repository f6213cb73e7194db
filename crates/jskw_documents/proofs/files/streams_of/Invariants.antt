use Rattle.std.proofs.Common.{◌≡◌, map, take}
use Rattle.std.specs.List.{All}
use Rattle.std.specs.Prelude.{string_bytes}
use Rattle.jskw_documents.proofs.files.streams_of.Given as goal

-- the streams of the files before this one
abbrev pub invariant-loop-file : goal.invariant-loop-file
invariant-loop-file l = record {
  checker : All (λ s. s.checker.now ≡ l.checker) l.streams.items;
  names : map (λ s. s.file.now) l.streams.items ≡ map string_bytes (take l.file-index l.files);
}
