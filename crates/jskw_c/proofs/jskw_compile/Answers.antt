use Rattle.std.proofs.Common.{subst, Result, Err, Box, Global}
use Rattle.jskw_c.specs.Compiled.{compiled_of, setting_numbered}
use Rattle.jskw_c.specs.Replies.{CompilesBytes}
use Rattle.jskw_c.specs.Buffer.{WritesText}
use Rattle.jskw_c.specs.declared.ask.Outcome.{Outcome}
use Rattle.jskw_c.specs.declared.compiled.CompiledSchema.{CompiledSchema}
use Rattle.jskw_c.proofs.OutcomesOfRefusals.{compiles_fault}
use Rattle.jskw_c.proofs.jskw_compile.Goals as goal

pub returns-in-Ok-Err : goal.returns-in-Ok-Err
returns-in-Ok-Err c =
    let outcome = c.in-Ok-Err.outcome in
    let compiled =
    compiled_of (setting_numbered c.args.draft c.args.vocabularies c.args.overridden.now) c.args.schema.now in
    let made : CompilesBytes (λ (schema : Box CompiledSchema Global). schema.value) (Err outcome) compiled =
    subst (λ (r : Result (Box CompiledSchema Global) Outcome). CompilesBytes (λ schema. schema.value) r compiled)
    c.in-Ok-Err.field-0-is c.in-Ok-Err.ensures in
    let gives : WritesText c.write_text.result outcome.status outcome.text.items c.args.buffer.now
    c.write_text.new.buffer c.write_text.new.length =
    subst (λ text. WritesText c.write_text.result outcome.status text c.args.buffer.now c.write_text.new.buffer
    c.write_text.new.length) c.as_slice.ensures.value c.write_text.ensures in
    compiles_fault (λ (schema : Box CompiledSchema Global). schema.value) compiled outcome c.write_text.result
    c.args.handle.now.schema c.args.buffer.now c.write_text.new.buffer c.write_text.new.length made gives
