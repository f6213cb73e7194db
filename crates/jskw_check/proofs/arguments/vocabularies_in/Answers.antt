use Rattle.std.proofs.Common.{◌∙◌, None, Some, arith, rules, sym}
use Rattle.std.proofs.lemmas.Str.Pattern.{split_once_first}
use Rattle.jskw_check.proofs.Words.{first_name, named_more, named_none, no_comma}
use Rattle.jskw_check.proofs.arguments.vocabularies_in.Goals as goal

pub returns-in_default-vocabulary_named : goal.returns-in_default-vocabulary_named
returns-in_default-vocabulary_named c =
    let rest = c.names.rest.now in
    let at = split_once_first 44 rest (Some (c.in-Some.name, c.in-Some.behind)) c.in-Some.ensures.cases (omega arith) in
    named_none c.names.vocabularies c.in-Some.name.now _ _ _
    (first_name rest c.in-Some.name.now c.in-Some.behind.now at)
    (sym c.vocabulary_named.ensures ∙ c.in_default-vocabulary_named.is) c.names.invariant.names

pub names-preserved : goal.names-preserved
names-preserved c =
    let rest = c.names.rest.now in
    let at = split_once_first 44 rest (Some (c.in-Some.name, c.in-Some.behind)) c.in-Some.ensures.cases (omega arith) in
    record {
      text = search rules;
      names =
          named_more c.names.vocabularies c.insert-vocabularies.result c.in-Some-vocabulary_named.vocabulary
          c.in-Some.name.now _ _ _ (first_name rest c.in-Some.name.now c.in-Some.behind.now at)
          (sym c.vocabulary_named.ensures ∙ c.in-Some-vocabulary_named.is) c.insert-vocabularies.ensures
          c.names.invariant.names;
    }

pub returns-in-None : goal.returns-in-None
returns-in-None c =
    let rest = c.names.rest.now in
    let none = split_once_first 44 rest None c.in_default.ensures.cases (omega arith) in
    named_none c.names.vocabularies rest _ _ _ (no_comma rest none) (sym c.vocabulary_named-2.ensures ∙ c.in-None.is)
    c.names.invariant.names
