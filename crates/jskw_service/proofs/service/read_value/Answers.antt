-- Bytes that are no text are refused, and so is text that is no JSON.
use Rattle.std.proofs.Common.{sym, ◌∙◌, true≢false}
use Rattle.jskw_service.proofs.Reading.{value_of-text, value_of-none}
use Rattle.jskw_service.proofs.service.read_value.Goals as goal

pub returns-in-Ok : goal.returns-in-Ok
returns-in-Ok c = sym (value_of-text c.args.bytes.now _ c.in-Ok.ensures.ok.0 c.in-Ok.ensures.ok.1)

pub returns-in-Err-2 : goal.returns-in-Err-2
returns-in-Err-2 c =
    sym (value_of-none c.args.bytes.now
    (c.in-Err.ensures.err (λ m. true≢false (sym (c.is_memory.ensures.1 m) ∙ c.if-is_memory.false))))
