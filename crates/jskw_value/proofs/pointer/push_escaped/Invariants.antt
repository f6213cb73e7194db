use Rattle.std.proofs.Common.{string_bytes}
use Rattle.std.specs.Str.{IsUtf8}
use Rattle.jskw_value.specs.Pointer.{escape}
use Rattle.jskw_value.specs.Text.{AppendsUpTo}
use Rattle.jskw_value.proofs.pointer.push_escaped.Given as goal

abbrev pub invariant-loop-c : goal.invariant-loop-c
invariant-loop-c l =
    let rest = l.c-iterator.rest.now in
    IsUtf8 rest × AppendsUpTo (string_bytes l.initial.pointer) (string_bytes l.pointer) (escape rest) (escape l.name)
