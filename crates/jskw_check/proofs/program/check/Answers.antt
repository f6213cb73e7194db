use Rattle.std.proofs.Common.{◌≡◌, None, Some, inl, inr, refl, rules}
use Rattle.jskw_documents.specs.Files.{HasBytes}
use Rattle.jskw_documents.specs.Schemas.{schema_given}
use Rattle.jskw_check.specs.CommandView.{given_view}
use Rattle.jskw_check.proofs.Runs.{runs_files, runs_told}
use Rattle.jskw_check.proofs.program.check.Goals as goal

pub returns-in-Err-clause-runs : goal.returns-in-Err-clause-runs
returns-in-Err-clause-runs g c =
    runs_told _ _ c.tell.result c.deref.result.now _ _ _ _
    (inl (record { why = c.in-Err.why.now; is = c.tell.ensures.status; writes = refl; tells = search rules }))
    c.tell.ensures.tells

pub returns-in-Ok-2-clause-runs : goal.returns-in-Ok-2-clause-runs
returns-in-Ok-2-clause-runs g c =
    let asked = given_view c.args.given in
    let bytes = c.deref-2.result.now in
    let bytes_of = g.F.Folder.bytes_of c.args.folder.now in
    let has : HasBytes (bytes_of asked.schema) bytes =
    rw (c.in-Ok.is, c.as_str.ensures.value, ← c.deref-2.ensures.value) at c.in_ok-text.ensures.reads in
    let given : schema_given asked.how bytes ≡ Some c.in-Ok-2.schema = rw c.in-Ok-2.is at c.in_ok-schema.ensures in
    runs_files c.check_under.result bytes_of asked bytes c.in-Ok-2.schema _ _ _ _ has given
    (rw c.as_slice.ensures.value at c.check_under.ensures.checks)

pub returns-clause-runs : goal.returns-clause-runs
returns-clause-runs g c =
    let asked = given_view c.args.given in
    let bytes = c.deref-2.result.now in
    let bytes_of = g.F.Folder.bytes_of c.args.folder.now in
    let has : HasBytes (bytes_of asked.schema) bytes =
    rw (c.in-Ok.is, c.as_str.ensures.value, ← c.deref-2.ensures.value) at c.in_ok-text.ensures.reads in
    let none : schema_given asked.how bytes ≡ None = rw c.in-Err-2.is at c.in_ok-schema.ensures in
    runs_told _ _ c.tell-in-Err-2.result c.deref-in-Err-2.result.now _ _ _ _
    (inr (inl (record { bytes = bytes; has = has; none = none; is = c.tell-in-Err-2.ensures.status; writes = refl })))
    c.tell-in-Err-2.ensures.tells
