use Rattle.std.proofs.Common.{ap}
use Rattle.jskw_array.specs.Words.{keywords, keywords_of, marks_of, members_view, readings_named, read_keywords}
use Rattle.jskw_array.specs.Words.{object_schema}
use Rattle.jskw_leaf.proofs.PassedFaults.{refused_part}
use Rattle.jskw_array.proofs.compiler.node_of.Goals as goal

pub returns-in-Err : goal.returns-in-Err
returns-in-Err g c =
    let s = c.args.ctx.now.setting in
    let p = c.args.ctx.now.location in
    let ms = members_view c.args.parent.now.entries in
    let read = read_keywords keywords s p ms (λ name. readings_named name ms) in
    refused_part (λ _. keywords_of c.args.parts.items) (λ node. node) c.in-Err.fault c.args.made read _ c.in-Err.is
    c.requires.made (λ refusal is. ap (object_schema p (marks_of s ms)) is)
