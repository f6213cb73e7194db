use Rattle.std.proofs.Common.{◌∙◌, ap}
use Rattle.jskw_documents.proofs.Taking.{told_behind}
use Rattle.jskw_documents.proofs.lines.refuse.Goals as goal

pub returns-in-Ok-write_lost-clause-told : goal.returns-in-Ok-write_lost-clause-told
returns-in-Ok-write_lost-clause-told g c =
    told_behind _ _ _ c.args.text.now.items c.replace-ready.new.dest.items c.deref.result.now _
    (c.deref.ensures.value ∙ ap (λ v. v.items) c.replace-ready.ensures.value)
    (ap (λ v. v.items) c.replace-ready.ensures.after ∙ c.new.ensures.items) c.in-Ok.ensures.ok
    c.in-Ok-write_lost.ensures.writes
