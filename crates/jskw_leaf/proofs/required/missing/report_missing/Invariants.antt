use Rattle.std.proofs.Common.{◌≡◌, drop, length}
use Rattle.jskw_report.proofs.ReportedFailures.{Reported}
use Rattle.jskw_report.specs.Paths.{path_of}
use Rattle.jskw_leaf.specs.Required.{required_fails}
use Rattle.jskw_leaf.proofs.required.missing.report_missing.Given as goal

-- the errors of the names so far were reported
abbrev pub invariant-loop-index : goal.invariant-loop-index
invariant-loop-index g l =
    let tree = g.F.Node.Rooted.tree in
    let fails = required_fails l.schema_path (tree l.instance) (path_of l.location) in
    let names = g.L.Names.names l.names in
    record {
      within : l.index-end ≡ length names;
      reported : Reported tree l.initial.report l.report (fails (drop l.index names)) (fails names);
    }
