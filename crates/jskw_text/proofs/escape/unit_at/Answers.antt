use Rattle.std.proofs.Common.{◌<◌, arith}
use Rattle.jskw_text.proofs.Escapes.{unit_read}
use Rattle.jskw_text.proofs.escape.unit_at.Goals as goal

pub returns-then-a-b : goal.returns-then-a-b
returns-then-a-b c =
    let first : c.digit-a.result < 16 = grind arith in
    let second : c.digit-b.result < 16 = grind arith in
    let third : c.digit-c.result < 16 = grind arith in
    let fourth : c.digit-d.result < 16 = grind arith in
    let ascii = c.digit-d.ensures.ascii fourth in
    rw (c.digit-a.ensures.value, c.digit-b.ensures.value, c.digit-c.ensures.value, c.digit-d.ensures.value)
    (unit_read c.args.bytes.now c.args.at (omega arith) (omega (arith, first, c.digit-a.ensures.value))
    (omega (arith, second, c.digit-b.ensures.value)) (omega (arith, third, c.digit-c.ensures.value))
    (omega (arith, fourth, c.digit-d.ensures.value)) ascii)
