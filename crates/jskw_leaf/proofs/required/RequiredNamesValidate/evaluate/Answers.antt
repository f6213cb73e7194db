use Rattle.std.proofs.Common.{◌∙◌}
use Rattle.jskw_report.proofs.NoErrors.{none_appended}
use Rattle.jskw_report.specs.Meaning.{as_keyword}
use Rattle.jskw_report.specs.Paths.{path_of}
use Rattle.jskw_leaf.specs.Meaning.{required_names}
use Rattle.jskw_leaf.proofs.required.RequiredNamesValidate.evaluate.Goals as goal

pub returns-clause-quiet : goal.returns-clause-quiet
returns-clause-quiet g c assertion holds =
    let tree = g.F.Node.Rooted.tree in
    let keyword = as_keyword (required_names g.L.Names.names c.args.self.now) in
    c.evaluate_errors.ensures.ok
    (c.deref.ensures.value ∙ none_appended tree keyword (tree c.args.instance.now) (path_of c.args.location.now) _ _
    c.new-errors.ensures.items holds c.in_ok-collect_errors.ensures.appended)
