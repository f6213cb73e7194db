use Rattle.std.proofs.Common.{ap, ◌∙◌}
use Rattle.std.proofs.lemmas.Result.{IfOk-weaker}
use Rattle.jskw_value.specs.DecimalTree.{decimal_tree}
use Rattle.jskw_text.specs.Reading.{reading}
use Rattle.jskw_c.proofs.Pruned.{reads_alike}
use Rattle.jskw_c.proofs.compiled.CompiledSchema.read_wanted.Goals as goal

-- src/compiled.rt:102:5
pub returns-clause-tree : goal.returns-clause-tree
returns-clause-tree c = IfOk-weaker c.read_wanted.result _ _
    (λ tree read. reads_alike _ _ _ _ (decimal_tree tree) (reading c.args.instance.now) c.self.view_is
    (c.as_slice.ensures.value ∙ ap (λ v. v.items) c.deref.ensures) c.self.invariant read)
    c.read_wanted.ensures.tree
