use Rattle.std.proofs.Common.{◌∙◌, Ok, Some, ap, subst, sym}
use Rattle.jskw_array.specs.Words.{CompilesKeyword, ShapeBegins, append_keywords, keyword, keyword_location}
use Rattle.jskw_array.specs.Words.{keywords_of, no_keywords, shape_in, validator_keyword}
use Rattle.jskw_array.proofs.CompiledKeywords.{appends_nothing, appends_one}
use Rattle.jskw_array.proofs.KeywordsOfParts.{keywords_of_more, shape_begins_more, shape_in_more}
use Rattle.jskw_array.proofs.compiler.keyword.push_part.Goals as goal

pub returns-in-None-clause-made : goal.returns-in-None-clause-made
returns-in-None-clause-made g c = λ read compiled.
    let keyword_of =
    validator_keyword {F = g.row.F.Denot} {Node = g.row.F-Node.Denot} {Number = g.row.F-Node-Number.Denot}
    {Key = g.row.F-Node-PreparedKey.Denot} in
    let q = keyword_location c.args.ctx.now.location c.args.keyword in
    appends_nothing keyword_of (keywords_of c.args.parts.now.items) q read
    (subst (λ o. CompilesKeyword keyword_of o read) c.in-None.is compiled)

pub returns-in_ok-push-in-Some-Ok-clause-made : goal.returns-in_ok-push-in-Some-Ok-clause-made
returns-in_ok-push-in-Some-Ok-clause-made g c = λ read compiled.
    let keyword_of =
    validator_keyword {F = g.row.F.Denot} {Node = g.row.F-Node.Denot} {Number = g.row.F-Node-Number.Denot}
    {Key = g.row.F-Node-PreparedKey.Denot} in
    let q = keyword_location c.args.ctx.now.location c.args.keyword in
    let made =
    subst (λ o. CompilesKeyword keyword_of o read) (c.in-Some-Ok.is ∙ ap Some c.in-Some-Ok.field-0-is) compiled in
    let before = keywords_of c.args.parts.now.items in
    let pushed =
    ap keywords_of c.in_ok-push-in-Some-Ok.ensures.items ∙ keywords_of_more c.args.parts.now.items _
    ∙ ap (λ at. append_keywords before (keyword at (keyword_of c.in-Some-Ok.validator) no_keywords))
    c.in_ok-location-in-Some-Ok.ensures in
    appends_one keyword_of before q c.in-Some-Ok.validator read made ∙ ap Ok (sym pushed)

pub returns-in_ok-push-in-Some-Ok-clause-fused : goal.returns-in_ok-push-in-Some-Ok-clause-fused
returns-in_ok-push-in-Some-Ok-clause-fused g c =
    ap shape_in c.in_ok-push-in-Some-Ok.ensures.items ∙ shape_in_more c.args.parts.now.items _

pub returns-in_ok-push-in-Some-Ok-clause-begins : goal.returns-in_ok-push-in-Some-Ok-clause-begins
returns-in_ok-push-in-Some-Ok-clause-begins g c begins =
    subst ShapeBegins (sym c.in_ok-push-in-Some-Ok.ensures.items)
    (shape_begins_more c.args.parts.now.items _ begins)
