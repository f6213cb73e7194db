use Rattle.std.proofs.Common.{◌≡◌, take}
use Rattle.jskw_report.specs.LocationText.{written}
use Rattle.jskw_report.specs.Paths.{path_of}
use Rattle.jskw_report.proofs.paths.LazyLocation.render.Given as goal

abbrev pub invariant-loop-index : goal.invariant-loop-index
invariant-loop-index l = written l.text ≡ path_of (take l.index-index l.index-items)
