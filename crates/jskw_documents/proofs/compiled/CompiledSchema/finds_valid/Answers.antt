use Rattle.std.proofs.Common.{◌≡◌, ◌∙◌, subst, sym}
use Rattle.jskw_value.specs.DecimalTree.{decimal_tree}
use Rattle.jskw_text.specs.Reading.{reading}
use Rattle.jskw_wanted.specs.Seen.{Sees}
use Rattle.jskw_documents.specs.Documents.{verdict_on}
use Rattle.jskw_service.specs.declared.service.Verdict.TheVariants.{Valid}
use Rattle.jskw_documents.proofs.Valid.{found_valid}
use Rattle.jskw_documents.proofs.compiled.CompiledSchema.finds_valid.Goals as goal

pub returns : goal.returns
returns c = λ valid.
    let bytes = c.args.document.now in
    subst (λ s. verdict_on s bytes ≡ Valid) c.self.view_is
    (found_valid _ c.deref.result.now (decimal_tree c.in-Ok.tree) (reading bytes)
    (subst (Sees _) (sym c.deref.ensures.value) c.self.invariant) c.in-Ok.ensures.tree
    (sym c.is_valid-is_valid.ensures.answer ∙ valid))
