use Rattle.jskw_documents.proofs.Answered.{refuses_unopened}
use Rattle.jskw_documents.proofs.files.check_file.Goals as goal

pub returns-in-Err-clause-answers : goal.returns-in-Err-clause-answers
returns-in-Err-clause-answers g c =
    refuses_unopened c.refuse.result c.args.stream.now.checker.now c.args.lines c.args.stream.now.file.now
    (g.F.Folder.bytes_of c.args.folder.now c.args.stream.now.file.now) (g.W.Sink.contents c.args.writer.now)
    (g.W.Sink.contents c.refuse.new.writer) c.refuse.ensures.refuses
