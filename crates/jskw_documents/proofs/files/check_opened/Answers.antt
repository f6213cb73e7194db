use Rattle.std.proofs.Common.{IsErrOf, rules, subst, sym}
use Rattle.jskw_documents.specs.declared.fault.CheckFault.TheVariants.{Read}
use Rattle.jskw_documents.proofs.Answered.{refuses_behind}
use Rattle.jskw_documents.proofs.files.check_opened.Goals as goal

pub returns-in-Err-Read-clause-answers : goal.returns-in-Err-Read-clause-answers
returns-in-Err-Read-clause-answers g c =
    let read = subst (λ r. IsErrOf r Read) (sym c.in-Err-Read.is) (search rules) in
    refuses_behind c.refuse.result c.args.stream.now.checker.now c.args.lines c.args.stream.now.file.now
    (g.R.Source.remaining c.args.reader.now) (g.W.Sink.contents c.args.writer.now)
    (g.W.Sink.contents c.check_reader.new.writer) (g.W.Sink.contents c.refuse.new.writer)
    (c.check_reader.ensures.part read) c.refuse.ensures.refuses
