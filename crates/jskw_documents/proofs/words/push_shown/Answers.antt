use Rattle.std.proofs.Common.{◌≡◌, ◌≤◌, arith, length}
use Rattle.std.proofs.lemmas.Grind.{common_steps}
use Rattle.std.proofs.lemmas.List.Sums.{prefix_len-le-length}
use Rattle.jskw_documents.specs.Shown.{is_plain}
use Rattle.jskw_documents.proofs.Plain.{plain_first}
use Rattle.jskw_documents.proofs.words.push_shown.Goals as goal

pub words-preserved-then-plain-gt0 : goal.words-preserved-then-plain-gt0
words-preserved-then-plain-gt0 c =
    let rest = c.words.rest.now in
    let n = c.plain_len-plain.result in
    let none : c.words.passed ≡ 0 = omega (arith, c.if-passed-eq0.true) in
    let bound : n ≤ length rest = omega (arith, prefix_len-le-length is_plain rest, c.plain_len-plain.ensures) in
    let run = plain_first n c.words.passed rest c.words.text.items c.plain_len-plain.ensures none in
    let added = c.in_ok-push_bytes.ensures in
    grind (arith, common_steps)
