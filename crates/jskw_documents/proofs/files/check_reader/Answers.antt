use Rattle.jskw_documents.proofs.Answered.{nothing_written, whole_document}
use Rattle.jskw_documents.proofs.files.check_reader.Goals as goal

pub returns-else-lines-clause-whole : goal.returns-else-lines-clause-whole
returns-else-lines-clause-whole g c =
    whole_document c.check_document.result c.args.stream.now.checker.now c.args.lines c.args.stream.now.file.now
    (g.R.Source.remaining c.args.reader.now) (g.R.Source.remaining c.check_document.new.reader)
    (g.W.Sink.contents c.args.writer.now) (g.W.Sink.contents c.check_document.new.writer) c.if-lines.false
    c.check_document.ensures.answers

pub returns-else-lines-clause-part : goal.returns-else-lines-clause-part
returns-else-lines-clause-part g c = λ read.
    nothing_written c.args.stream.now.checker.now c.args.lines c.args.stream.now.file.now
    (g.R.Source.remaining c.args.reader.now) (g.W.Sink.contents c.args.writer.now)
    (g.W.Sink.contents c.check_document.new.writer) (c.check_document.ensures.unread read)
