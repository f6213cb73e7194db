use Rattle.std.proofs.Common.{length, refl, sym, ap, ◌∙◌, arith, subst}
use Rattle.std.specs.List.{slice_range}
use Rattle.json.specs.Print.{IsNumber}
use Rattle.jskw_text.specs.NumberText.{number_of}
use Rattle.jskw_text.proofs.ShortNumbers.{some_bytes}
use Rattle.jskw_text.proofs.scan.number_at.Goals as goal

pub returns : goal.returns
returns c =
    let d = c.args.text.now in
    let from = c.args.from in
    let end = c.word_end-end.result in
    let same = c.as_bytes-bytes.ensures.value in
    let bounds = c.word_end-end.ensures.bounds in
    let word = c.range-word.ensures.value in
    let number : IsNumber (slice_range d from end) = subst IsNumber word (c.if-not-is_number.ensures.0 refl) in
    record {
      within = omega (arith, bounds.1, ap length same);
      forward = some_bytes d from end bounds.0 number;
      number = number;
      denotes = ap number_of (sym word) ∙ sym c.in_ok-parse_decimal.ensures;
      ended = rw (← same) c.word_end-end.ensures.ended;
    }
