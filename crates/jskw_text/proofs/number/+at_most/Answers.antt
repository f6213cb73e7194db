use Rattle.std.proofs.Common.{◌-◌, sym, ap, ◌∙◌, arith}
use Rattle.std.specs.Option.{option_or}
use Rattle.jskw_text.specs.NumberText.{at_most}
use Rattle.jskw_text.proofs.Numbers.{at_most_is}
use Rattle.jskw_text.proofs.number.+at_most.Goals as goal

pub returns-then-scale-eq0 : goal.returns-then-scale-eq0
unfolding at_most
returns-then-scale-eq0 t c = sym (ap (at_most c.args.negative c.args.numeral.now) c.if-scale-eq0.true)

pub returns-in-Some : goal.returns-in-Some
returns-in-Some t c =
    sym (at_most_is c.args.negative c.args.numeral.now c.args.scale (omega arith)
    ∙ ap (λ o. option_or o (at_most c.args.negative c.args.numeral.now (c.args.scale - 1))) (sym c.in-Some.ensures))

pub returns-in-None : goal.returns-in-None
returns-in-None t c =
    c.at_most.ensures ∙
    sym (at_most_is c.args.negative c.args.numeral.now c.args.scale (omega arith)
    ∙ ap (λ o. option_or o (at_most c.args.negative c.args.numeral.now (c.args.scale - 1))) (sym c.in-None.ensures))
