use Rattle.jskw_text.proofs.ShortNumbers.{plain_number, negative_number}
use Rattle.std.proofs.Common.{arith}
use Rattle.jskw_text.proofs.Lexemes.{if_some}
use Rattle.jskw_text.proofs.scan.short_number_at.Goals as goal

pub returns-then-byte_at-eq45 : goal.returns-then-byte_at-eq45
returns-then-byte_at-eq45 c =
    if_some _ _ c.unsigned_at.result
    (λ p. negative_number c.args.bytes.now c.args.from p.1 _ (omega (arith, c.byte_at.ensures.head)))
    c.unsigned_at.ensures

pub returns-else-byte_at-eq45 : goal.returns-else-byte_at-eq45
returns-else-byte_at-eq45 c =
    if_some _ _ c.unsigned_at-else-byte_at-eq45.result
    (λ p. plain_number c.args.bytes.now c.args.from p.1 _ (λ e. omega (arith, c.byte_at.ensures.head)))
    c.unsigned_at-else-byte_at-eq45.ensures
