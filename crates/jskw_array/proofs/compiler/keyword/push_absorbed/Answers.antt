use Rattle.std.proofs.Common.{◌∙◌, Some, ap}
use Rattle.jskw_number.specs.Meaning.{min_items}
use Rattle.jskw_report.specs.Meaning.{as_keyword}
use Rattle.jskw_leaf.specs.Items.{absorbed_type}
use Rattle.jskw_array.specs.Words.{append_keywords, keyword, keywords_of, leaf_assertion, optional, shape_in}
use Rattle.jskw_array.proofs.compiler.keyword.push_absorbed.Goals as goal

pub returns-clause-keywords : goal.returns-clause-keywords
returns-clause-keywords g c =
    let of_leaf =
    leaf_assertion {F = g.row.F.Denot} {Node = g.row.F-Node.Denot} {Number = g.row.F-Node-Number.Denot}
    {Key = g.row.F-Node-PreparedKey.Denot} in
    let a = c.args.absorbed.now in
    let least = optional of_leaf c.in_ok-min_validator.field-0 in
    let most = optional of_leaf c.in_ok-max_validator.field-0 in
    let of_type = optional of_leaf (Some c.in_ok-type_validator.field-0) in
    c.in_ok-push_leaf-3.ensures.keywords
    ∙ ap (λ ks. append_keywords ks most) (c.in_ok-push_leaf-2.ensures.keywords
    ∙ ap (λ ks. append_keywords ks least) (c.in_ok-push_leaf.ensures.keywords
    ∙ ap (λ us. append_keywords (keywords_of us) of_type) c.requires))
    ∙ ap (λ t. keyword t.location (as_keyword t) (append_keywords least most)) c.in_ok-type_validator.ensures
    ∙ ap (λ ks. keyword (absorbed_type a).location (as_keyword (absorbed_type a)) (append_keywords ks most))
    c.in_ok-min_validator.ensures
    ∙ ap (λ ks. keyword (absorbed_type a).location (as_keyword (absorbed_type a))
    (append_keywords (optional min_items a.min_items) ks)) c.in_ok-max_validator.ensures

pub returns-clause-fused : goal.returns-clause-fused
returns-clause-fused g c =
    c.in_ok-push_leaf-3.ensures.fused ∙ c.in_ok-push_leaf-2.ensures.fused ∙ c.in_ok-push_leaf.ensures.fused
    ∙ ap shape_in c.requires
