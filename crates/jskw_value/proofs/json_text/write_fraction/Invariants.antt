use Rattle.std.proofs.Common.{string_bytes}
use Rattle.jskw_value.specs.Text.{Extends}
use Rattle.jskw_value.proofs.json_text.write_fraction.Given as goal

abbrev pub invariant-loop : goal.invariant-loop
invariant-loop l = Extends (string_bytes l.fn.out) (string_bytes l.out)
