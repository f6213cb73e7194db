use Rattle.std.proofs.Common.{arith}
use Rattle.jskw_text.proofs.Escapes.{letter_read, short_read}
use Rattle.jskw_text.proofs.Lexemes.{if_some}
use Rattle.jskw_text.proofs.escape.escape_at.Goals as goal

pub returns-then-bytes-at-eq117 : goal.returns-then-bytes-at-eq117
returns-then-bytes-at-eq117 c =
    if_some _ _ c.unicode_at.result (λ p. letter_read c.args.bytes.now c.args.at p (omega arith) (omega arith))
    c.unicode_at.ensures

pub returns : goal.returns
returns c =
    short_read c.args.bytes.now c.args.at c.in_ok-byte.byte (omega arith) (λ e. omega arith) (grind arith)
    c.in_ok-byte.ensures.ascii.0 c.in_ok-byte.ensures.ascii.1
