use Rattle.std.proofs.Common.{◌<◌, length, [], ◌∷◌, sym, ◌∙◌, arith}
use Rattle.std.proofs.lemmas.Bool.{not-true, not-false}
use Rattle.std.proofs.lemmas.List.{get_or_read}
use Rattle.jskw_report.specs.Paths.{path_of}
use Rattle.jskw_report.proofs.ReportedFailures.{reported_more, reported_nothing, reported_stopped}
use Rattle.jskw_leaf.proofs.MissingNames.{fails_there, name_fails}
use Rattle.jskw_leaf.proofs.required.missing.report_missing.Goals as goal
use Rattle.jskw_leaf.proofs.required.missing.report_missing.Goals.{then-is_missing+in_ok-report_error, else-is_missing}

pub loop-index-init : goal.loop-index-init
loop-index-init g c =
    record {
      within =
          c.len-index-end.ensures.count;
      reported = reported_nothing g.F.Node.Rooted.tree c.args.report.now _;
    }

pub loop-index-preserved : goal.loop-index-preserved
loop-index-preserved g c =
    let tree = g.F.Node.Rooted.tree in
    let names = g.L.Names.names c.args.names.now in
    let i = c.loop-index.index in
    let within : i < length names = omega (arith, c.loop-index.invariant.within, c.loop-index-test.true) in
    elim c.if-is_missing.branch [
      | then-is_missing+in_ok-report_error w ↦
          let is = w.as_str-property.ensures ∙ get_or_read names i _ within w.at.ensures [] in
          let here =
          name_fails c.args.schema_path.now (tree c.args.instance.now) (path_of c.args.location.now) names i _
          (sym c.is_object.ensures ∙ c.if-not-is_object.false) within is
          (not-true _ (sym c.is_missing.ensures ∙ w.if-is_missing.true)) in
          record {
            within =
                c.loop-index.invariant.within;
            reported =
                rw w.report-is
                (reported_more tree (_ ∷ []) _ (rw here at c.loop-index.invariant.reported)
                w.in_ok-report_error.ensures);
          }
      | else-is_missing w ↦
          let there =
          fails_there c.args.schema_path.now (tree c.args.instance.now) (path_of c.args.location.now) names i []
          within (not-false _ (sym c.is_missing.ensures ∙ w.if-is_missing.false)) in
          record {
            within =
                c.loop-index.invariant.within;
            reported = rw w.report-is (rw there at c.loop-index.invariant.reported);
          }
    ]

pub returns-in_err-report_error : goal.returns-in_err-report_error
returns-in_err-report_error g c =
    let names = g.L.Names.names c.args.names.now in
    let i = c.loop-index.index in
    let within : i < length names = omega (arith, c.loop-index.invariant.within, c.loop-index-test.true) in
    let is = c.as_str-property.ensures ∙ get_or_read names i _ within c.at.ensures [] in
    let here =
    name_fails c.args.schema_path.now (g.F.Node.Rooted.tree c.args.instance.now) (path_of c.args.location.now) names
    i _ (sym c.is_object.ensures ∙ c.if-not-is_object.false) within is
    (not-true _ (sym c.is_missing.ensures ∙ c.if-is_missing.true)) in
    reported_stopped g.F.Node.Rooted.tree (_ ∷ []) _ _ _ (rw here at c.loop-index.invariant.reported)
    c.from_residual.ensures.1 c.in_err-report_error.ensures
