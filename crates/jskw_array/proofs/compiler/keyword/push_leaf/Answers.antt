use Rattle.std.proofs.Common.{rules, ◌≡◌, ◌∙◌, ap, sym}
use Rattle.jskw_report.proofs.AppendedKeywords.{append_none}
use Rattle.jskw_report.specs.Meaning.{as_keyword}
use Rattle.jskw_array.specs.Words.{append_keywords, keyword, keywords_of, leaf_assertion, no_keywords, optional}
use Rattle.jskw_array.specs.Words.{shape_in}
use Rattle.jskw_array.proofs.KeywordsOfParts.{keywords_of_more, shape_in_more}
use Rattle.jskw_array.proofs.compiler.keyword.push_leaf.Goals as goal

pub returns-in-None-clause-keywords : goal.returns-in-None-clause-keywords
returns-in-None-clause-keywords g c =
    let of_leaf =
    leaf_assertion {F = g.row.F.Denot} {Node = g.row.F-Node.Denot} {Number = g.row.F-Node-Number.Denot}
    {Key = g.row.F-Node-PreparedKey.Denot} in
    let before = keywords_of c.args.parts.now.items in
    sym (ap (λ o. append_keywords before (optional of_leaf o)) c.in-None.is ∙ append_none before)

pub returns-in_ok-push-in-Some-clause-keywords : goal.returns-in_ok-push-in-Some-clause-keywords
returns-in_ok-push-in-Some-clause-keywords g c =
    let of_leaf =
    leaf_assertion {F = g.row.F.Denot} {Node = g.row.F-Node.Denot} {Number = g.row.F-Node-Number.Denot}
    {Key = g.row.F-Node-PreparedKey.Denot} in
    let before = keywords_of c.args.parts.now.items in
    let at : c.in_ok-location-in-Some.location ≡ (of_leaf c.in-Some.leaf).location = search rules in
    ap keywords_of c.in_ok-push-in-Some.ensures.items ∙ keywords_of_more c.args.parts.now.items _
    ∙ ap (λ q. append_keywords before (keyword q (as_keyword (of_leaf c.in-Some.leaf)) no_keywords)) at
    ∙ ap (λ o. append_keywords before (optional of_leaf o)) (sym c.in-Some.is)

pub returns-in_ok-push-in-Some-clause-fused : goal.returns-in_ok-push-in-Some-clause-fused
returns-in_ok-push-in-Some-clause-fused g c =
    ap shape_in c.in_ok-push-in-Some.ensures.items ∙ shape_in_more c.args.parts.now.items _
