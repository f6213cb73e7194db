use Rattle.std.proofs.Common.{◌≡◌, drop, map, string_bytes}
use Rattle.std.specs.Set.{is_member}
use Rattle.std.specs.Str.{bytes_eq}
use Rattle.jskw_text.proofs.wanted.is_among.Given as goal

abbrev pub invariant-names : goal.invariant-names
invariant-names l =
    is_member bytes_eq (map string_bytes (drop l.one-index l.names)) l.name
    ≡ is_member bytes_eq (map string_bytes l.names) l.name
