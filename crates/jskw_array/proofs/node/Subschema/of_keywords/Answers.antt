use Rattle.std.proofs.Common.{◌∙◌, ◌||◌, ap, sym, subst}
use Rattle.jskw_array.specs.Words.{IsKnown, keywords_delegate, keywords_of}
use Rattle.jskw_array.proofs.node.Subschema.of_keywords.Goals as goal
use Rattle.jskw_array.proofs.node.Subschema.of_keywords.Goals.{then-delegates, else-delegates}

pub invariant_of-result : goal.invariant_of-result
invariant_of-result g c =
    let others = keywords_delegate (keywords_of c.args.parts.items) in (
      elim c.if-delegates.branch [
        | then-delegates w ↦ w.delegates_any-is ∙ w.if-delegates.true ∙ sym (ap (λ b. b || others) w.if-delegates.true)
        | else-delegates w ↦
            w.delegates_any-is ∙ w.some_part_delegates-delegates_any.ensures
            ∙ ap (λ us. keywords_delegate (keywords_of us)) w.as_slice.ensures.value
            ∙ sym (ap (λ b. b || others) w.if-delegates.false)
      ],
      (
        subst (IsKnown c.in_ok-accepted.accepted) c.as_slice-2.ensures.value c.in_ok-accepted.ensures,
        c.requires.begins,
      ),
    )
