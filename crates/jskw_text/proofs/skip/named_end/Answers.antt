use Rattle.std.proofs.Common.{◌≡◌, ◌+◌, ◌∷◌, true, false, drop, length, refl, ap, arith, length-drop}
use Rattle.json.specs.Token as token
use Rattle.jskw_value.specs.Tree.{boolean, null}
use Rattle.jskw_text.proofs.Lexemes.{true_first, false_first, null_first}
use Rattle.jskw_text.proofs.skip.named_end.Goals as goal

pub returns-then-has_word_at : goal.returns-then-has_word_at
returns-then-has_word_at c =
    let d = c.args.bytes.now in
    let at = c.args.at in
    let is : drop at d ≡ 116 ∷ 114 ∷ 117 ∷ 101 ∷ drop (at + 4) d = (c.if-has_word_at.ensures refl).0 in
    let passes = true_first (drop at d) (drop (at + 4) d) is (c.if-has_word_at.ensures refl).1 in (
      omega arith,
      omega (arith, passes.shorter, length-drop at d, length-drop (at + 4) d, ap length is),
      (boolean true, (token.boolean true, passes, refl)),
    )

pub returns-then-has_word_at-2 : goal.returns-then-has_word_at-2
returns-then-has_word_at-2 c =
    let d = c.args.bytes.now in
    let at = c.args.at in
    let is : drop at d ≡ 102 ∷ 97 ∷ 108 ∷ 115 ∷ 101 ∷ drop (at + 5) d = (c.if-has_word_at-2.ensures refl).0 in
    let passes = false_first (drop at d) (drop (at + 5) d) is (c.if-has_word_at-2.ensures refl).1 in (
      omega arith,
      omega (arith, passes.shorter, length-drop at d, length-drop (at + 5) d, ap length is),
      (boolean false, (token.boolean false, passes, refl)),
    )

pub returns-then-has_word_at-3 : goal.returns-then-has_word_at-3
returns-then-has_word_at-3 c =
    let d = c.args.bytes.now in
    let at = c.args.at in
    let is : drop at d ≡ 110 ∷ 117 ∷ 108 ∷ 108 ∷ drop (at + 4) d = (c.if-has_word_at-3.ensures refl).0 in
    let passes = null_first (drop at d) (drop (at + 4) d) is (c.if-has_word_at-3.ensures refl).1 in (
      omega arith,
      omega (arith, passes.shorter, length-drop at d, length-drop (at + 4) d, ap length is),
      (null, (token.null, passes, refl)),
    )
