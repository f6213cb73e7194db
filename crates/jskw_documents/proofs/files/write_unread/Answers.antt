use Rattle.std.proofs.lemmas.Result.{on_ok_weaker}
use Rattle.jskw_documents.proofs.Answered.{lost_unread}
use Rattle.jskw_documents.proofs.files.write_unread.Goals as goal

pub returns-in-Err-clause-writes : goal.returns-in-Err-clause-writes
returns-in-Err-clause-writes g c =
    let stream = c.args.stream.now in
    on_ok_weaker c.write_lost.result
    (λ wrote. (_, lost_unread stream.checker.now.options.output stream.file.now, wrote)) c.write_lost.ensures.writes
