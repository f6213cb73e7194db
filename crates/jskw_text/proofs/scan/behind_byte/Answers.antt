use Rattle.std.proofs.Common.{◌≡◌, ◌+◌, [], ◌∷◌, get_or, arith}
use Rattle.json.specs.Lex.{operator_lexeme}
use Rattle.jskw_text.proofs.Spans.{operator_at, operator_within, with_spaces}
use Rattle.jskw_text.proofs.scan.behind_byte.Goals as goal

pub returns-then-byte_at-byte : goal.returns-then-byte_at-byte
returns-then-byte_at-byte c =
    let d = c.args.bytes.now in
    let from = c.args.from in
    let is : get_or d from 32 ≡ c.args.byte = omega (arith, c.byte_at.ensures.value) in (
      omega arith,
      omega (arith, operator_within d from c.args.byte is c.requires.operator),
      operator_at d from c.args.byte is c.requires.operator,
    )

pub returns-then-byte_at-byte-2 : goal.returns-then-byte_at-byte-2
returns-then-byte_at-byte-2 c =
    let d = c.args.bytes.now in
    let from = c.args.from in
    let spaces = c.behind_spaces-at in
    let at = spaces.result in
    let is : get_or d at 32 ≡ c.args.byte = omega (arith, c.byte_at-2.ensures.value) in (
      omega (arith, spaces.ensures.bounds.0),
      omega (arith, operator_within d at c.args.byte is c.requires.operator),
      with_spaces d from at (at + 1) (operator_lexeme c.args.byte ∷ []) spaces.ensures.lexed spaces.ensures.bounds.0
          (operator_at d at c.args.byte is c.requires.operator),
    )
