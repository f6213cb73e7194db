use Rattle.std.proofs.Common.{[], inl}
use Rattle.std.proofs.KnownBytes.{Appends-nil}
use Rattle.jskw_documents.proofs.lines.said_of.Goals as goal

pub returns-in-Some-clause-answer : goal.returns-in-Some-clause-answer
returns-in-Some-clause-answer g c = λ document is.
    let made = c.in-Some.ensures document is in
    (c.in-Some.answer.text.items, inl (made.0, made.2), ([], Appends-nil _, made.1))
