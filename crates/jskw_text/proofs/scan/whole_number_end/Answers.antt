use Rattle.std.proofs.Common.{◌≡◌, ◌+◌, ◌<◌, ◌||◌, drop, length, get_or, true, ap, ◌∙◌, arith, rules}
use lib.Count.{count_trailing_zeros}
use Rattle.std.proofs.lemmas.List.{get_or_default}
use Rattle.std.proofs.lemmas.List.Sums.{prefix_len-drop_yes}
use Rattle.std.specs.Char.{is_ascii_digit}
use Rattle.std.specs.Float.Numeral.{digits_len}
use Rattle.json.specs.Word.{is_operator, is_space, ends_word, head}
use Rattle.jskw_text.proofs.Lanes.{digits_in_block}
use Rattle.jskw_text.proofs.ShortNumbers.{head_is, whole_number}
use Rattle.jskw_text.proofs.Spans.{number_spans}
use Rattle.jskw_text.proofs.scan.whole_number_end.Goals as goal

pub bounds-bytes-end : goal.bounds-bytes-end
bounds-bytes-end c =
    let found = c.other_than_digits-found in
    omega (arith, (digits_in_block c.args.bytes.now c.args.at found.result (omega arith) found.ensures (omega arith)).1)

pub returns : goal.returns
returns c =
    let d = c.args.bytes.now in
    let at = c.args.at in
    let found = c.other_than_digits-found in
    let run = digits_in_block d at found.result (omega arith) found.ensures (omega arith) in
    let end = at + count_trailing_zeros 64 found.result in
    let digits : end ≡ at + digits_len (drop at d) = omega (arith, run.0) in
    let first : is_ascii_digit (get_or d at 0) ≡ true = search rules in
    let more = prefix_len-drop_yes is_ascii_digit d at 0 (omega arith) first in
    let inside : end < length d = omega (arith, run.1) in
    let ended : ends_word (drop end d) ≡ true =
    ap (λ b. is_operator b || is_space b) (head_is d end ∙ get_or_default d end 32 0 inside) ∙ search rules in
    let high : 48 < head (drop at d) = omega (arith, head_is d at, get_or_default d at 32 0 (omega arith)) in
    let is =
    whole_number d at end (omega (arith, inside)) (omega (arith, digits, more)) (omega (arith, run.1)) digits high
    ended in
    number_spans d at end is.0 is.1
