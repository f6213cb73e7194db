use Rattle.std.proofs.Common.{◌≡◌, ◌∙◌, ◌++◌, [], false, ap, refl, rules, subst, sym}
use Rattle.jskw_documents.specs.Streams.{IsKept}
use Rattle.jskw_documents.proofs.Taking.{ends_line}
use Rattle.jskw_documents.proofs.lines.end_line.Goals as goal

pub returns-then-not-is_begun-clause-takes : goal.returns-then-not-is_begun-clause-takes
returns-then-not-is_begun-clause-takes g c =
    let a = c.args.lines.now in
    let xs = c.args.bytes.now in
    let no : c.is_begun.result ≡ false = search rules in
    ends_line c.answer_line.result (λ d. xs ≡ d) c.args.stream.now.checker.now c.args.stream.now.file.now a a
    c.answer_line.new.lines xs _ _ c.args.text.now.items c.answer_line.new.text.items c.requires.inside refl refl
    (λ line kept.
    let none = c.is_begun.ensures.none line kept no in (
      subst (λ o. IsKept o []) (sym c.answer_line.ensures.begun) (subst (IsKept a.begun) none kept),
      ap (λ z. z ++ xs) (sym none),
    ))
    c.answer_line.ensures.answer

pub returns-in-Some-clause-takes : goal.returns-in-Some-clause-takes
returns-in-Some-clause-takes g c =
    let xs = c.args.bytes.now in
    let new = c.answer_line-in-Some.new in
    ends_line c.answer_line-in-Some.result (λ d. c.deref.result.now ≡ d) c.args.stream.now.checker.now
    c.args.stream.now.file.now c.args.lines.now _ new.lines xs _ _ c.args.text.now.items new.text.items
    c.requires.inside refl refl
    (λ line kept.
    let joined =
    subst (λ o. IsKept o (line ++ xs)) c.in-Some.is
    (c.joined.ensures line (subst (λ o. IsKept o line) (sym c.replace-begun.ensures.value) kept)) in (
      subst (λ o. IsKept o []) (sym (c.answer_line-in-Some.ensures.begun ∙ c.replace-begun.ensures.after))
          c.new.ensures.items,
      c.deref.ensures.value ∙ joined,
    ))
    c.answer_line-in-Some.ensures.answer

pub returns-in-None-clause-takes : goal.returns-in-None-clause-takes
returns-in-None-clause-takes g c =
    let new = c.answer_line-in-None.new in
    ends_line c.answer_line-in-None.result _ c.args.stream.now.checker.now c.args.stream.now.file.now
    c.args.lines.now _ new.lines c.args.bytes.now _ _ c.args.text.now.items new.text.items c.requires.inside refl refl
    (λ line kept. (
      subst (λ o. IsKept o []) (sym (c.answer_line-in-None.ensures.begun ∙ c.replace-begun.ensures.after))
          c.new.ensures.items,
      tt,
    ))
    c.answer_line-in-None.ensures.answer
