use Rattle.std.proofs.Common.{◌∙◌, sym}
use Rattle.jskw_report.proofs.NoErrors.{none_fail}
use Rattle.jskw_report.proofs.ReportedFailures.{reports_none}
use Rattle.jskw_report.specs.Meaning.{as_keyword}
use Rattle.jskw_report.specs.Paths.{path_of}
use Rattle.jskw_leaf.specs.Meaning.{required_names}
use Rattle.jskw_leaf.proofs.required.RequiredNamesValidate.report_errors.Goals as goal

pub returns-then-is_valid-clause-reported : goal.returns-then-is_valid-clause-reported
returns-then-is_valid-clause-reported g c =
    let tree = g.F.Node.Rooted.tree in
    let keyword = as_keyword (required_names g.L.Names.names c.args.self.now) in
    reports_none tree c.args.report.now _ (none_fail keyword (tree c.args.instance.now) (path_of c.args.location.now)
    (sym c.is_valid.ensures.answer ∙ c.if-is_valid.true))
