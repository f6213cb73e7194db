use Rattle.std.proofs.Common.{◌≡◌, drop, map, string_bytes}
use Rattle.std.specs.List.{list_any}
use Rattle.std.specs.Str.{bytes_eq}
use Rattle.jskw_report.proofs.settings.is_among.Given as goal

abbrev pub invariant-loop-own : goal.invariant-loop-own
invariant-loop-own l =
    list_any (bytes_eq l.name) (map string_bytes (drop l.own-index l.names))
    ≡ list_any (bytes_eq l.name) (map string_bytes l.names)
