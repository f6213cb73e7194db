use Rattle.std.proofs.Common.{◌∙◌, ◌++◌, ap, subst, sym, append-nil, take}
use Rattle.std.proofs.Math.Seq.{take-nil}
use Rattle.jskw_report.proofs.ReportedFailures.{appends_reported}
use Rattle.jskw_array.specs.Words.{Appends, fail, failures_of, path_of}
use Rattle.jskw_array.proofs.AcceptedValues.{accepted_errors, counted_within}
use Rattle.jskw_array.proofs.WalksOverParts.{one_pair}
use Rattle.jskw_array.proofs.schema.SchemaNode.collect_first_errors.Goals as goal

pub returns-then-limit-eq0-clause-appended : goal.returns-then-limit-eq0-clause-appended
returns-then-limit-eq0-clause-appended g c =
    let old = failures_of g.F.Node.Rooted.tree c.args.errors.now.items in
    let all = fail c.args.self.now (g.F.Node.Rooted.tree c.args.instance.now) (path_of c.args.location.now) in
    sym (ap (λ n. old ++ take n all) c.if-limit-eq0.true ∙ append-nil old)

pub returns-then-apply_if_accepted-clause-appended : goal.returns-then-apply_if_accepted-clause-appended
returns-then-apply_if_accepted-clause-appended g c =
    let old = failures_of g.F.Node.Rooted.tree c.args.errors.now.items in
    let valid = c.apply_if_accepted.ensures.valid c.if-apply_if_accepted.true in
    let none = accepted_errors _ c.args.self.now _ (path_of c.args.location.now) c.self.view_is valid in
    sym (ap (λ fs. old ++ take c.args.limit fs) none ∙ ap (λ fs. old ++ fs) (take-nil c.args.limit) ∙ append-nil old)

pub returns-then-apply_if_accepted-clause-counted : goal.returns-then-apply_if_accepted-clause-counted
returns-then-apply_if_accepted-clause-counted g c =
    counted_within _ _ _ c.apply_if_accepted.result c.if-apply_if_accepted.true
    (one_pair c.args.self.now (g.F.Node.Rooted.tree c.args.instance.now)) c.apply_if_accepted.ensures.counted

pub returns-clause-appended : goal.returns-clause-appended
returns-clause-appended g c =
    let tree = g.F.Node.Rooted.tree in
    subst (λ s. Appends tree c.args.errors.now.items c.into_list.new.errors.items
    (take c.args.limit (fail s (tree c.args.instance.now) (path_of c.args.location.now))) c.into_list.result)
    c.self.view_is
    (appends_reported tree c.appending_to-report.result c.report_errors-reported.new.report _
    c.appending_to-report.ensures.room c.appending_to-report.ensures.found c.into_list.ensures.list
    c.report_errors-reported.ensures.reported c.into_list.ensures.appended)
