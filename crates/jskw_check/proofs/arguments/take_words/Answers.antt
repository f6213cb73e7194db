use Rattle.std.proofs.Common.{◌∙◌, ◌-◌, ◌++◌, ap, arith, drop, length, length-drop, map, rules}
use Rattle.std.proofs.lemmas.List.{take_all}
use Rattle.std.specs.Prelude.{string_bytes}
use Rattle.jskw_check.specs.CommandView.{unfinished_view}
use Rattle.jskw_check.proofs.Steps.{taken_alone, taken_files, taken_valued}
use Rattle.jskw_check.proofs.arguments.take_words.Goals as goal

pub returns-then-eq : goal.returns-then-eq
returns-then-eq c =
    let said = c.args.said.now in
    let s = unfinished_view said in
    let words = c.args.words.now in
    taken_files words c.index-words-0.result c.as_str-word.result.now said
    (record said { files = c.push_all.new.files }) c.requires c.index-words-0.is c.as_str-word.ensures.value
    (search rules)
    (ap (λ z. record s { files = z }) c.in_ok-push_all.ensures
    ∙ ap (λ z. record s { files = s.files ++ map string_bytes z })
    (take_all (length words - 1) (drop 1 words) (omega (arith, length-drop 1 words))))

pub returns-in_ok-set-in-Some : goal.returns-in_ok-set-in-Some
returns-in_ok-set-in-Some c =
    taken_valued c.args.words.now c.index-words-0.result c.as_str-word.result.now c.in-Some.value.now c.args.said.now
    c.set.new.said c.in_ok-set-in-Some.field-0 c.step_of.result c.requires c.index-words-0.is
    c.as_str-word.ensures.value (search rules) (search rules) c.in_ok-set-in-Some.ensures c.step_of.ensures

pub returns-in_ok-take_alone-in-None : goal.returns-in_ok-take_alone-in-None
returns-in_ok-take_alone-in-None c =
    taken_alone c.args.words.now c.index-words-0.result c.as_str-word.result.now c.args.said.now c.take_alone.new.said
    c.in_ok-take_alone-in-None.field-0 c.step_of-in-None.result c.requires c.index-words-0.is
    c.as_str-word.ensures.value (search rules) (search rules) c.in_ok-take_alone-in-None.ensures
    c.step_of-in-None.ensures
