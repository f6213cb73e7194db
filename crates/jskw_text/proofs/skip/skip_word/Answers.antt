use Rattle.std.proofs.Common.{subst}
use Rattle.jskw_value.specs.Decimal.{value}
use Rattle.jskw_text.specs.Passing.{IsNumberAt}
use Rattle.jskw_text.proofs.Spans.{number_spans}
use Rattle.jskw_text.proofs.skip.skip_word.Goals as goal

pub returns-in-Some : goal.returns-in-Some
returns-in-Some c =
    let x = value c.in-Some.field-0-0 in
    number_spans c.args.text.now c.args.at c.in-Some.end x
    (subst (λ s. IsNumberAt s c.args.at c.in-Some.end x) c.as_bytes.ensures.value c.in-Some.ensures)

pub returns : goal.returns
returns c =
    number_spans c.args.text.now c.args.at c.in_ok-end.end (value c.in_ok-end.field-0-0) c.in_ok-end.ensures
