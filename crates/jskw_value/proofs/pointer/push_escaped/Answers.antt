use Rattle.std.proofs.lemmas.Str.{IsUtf8-past_char}
use Rattle.jskw_value.proofs.Pointers.{append_escaped, begin_escaped}
use Rattle.jskw_value.proofs.pointer.push_escaped.Goals as goal

pub loop-c-preserved : goal.loop-c-preserved
loop-c-preserved c = (
  IsUtf8-past_char _ _ _ c.loop-c.invariant.0 c.in-Some.ensures.steps.0,
  append_escaped _ _ _ _ _ _ _ c.loop-c.invariant.1 c.in-Some.ensures.steps.0
      c.in_ok-push_escaped_char.ensures.appended,
)

pub returns-in_err-push_escaped_char-clause-kept : goal.returns-in_err-push_escaped_char-clause-kept
returns-in_err-push_escaped_char-clause-kept c =
    begin_escaped _ _ _ _ _ _ _ c.loop-c.invariant.1 c.in-Some.ensures.steps.0 c.push_escaped_char.ensures.kept
