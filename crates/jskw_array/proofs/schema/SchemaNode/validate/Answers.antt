use Rattle.std.proofs.Common.{subst}
use Rattle.jskw_array.specs.Words.{IsFirst, fail, path_of}
use Rattle.jskw_array.proofs.AcceptedValues.{accepted_errors, counted_within, one_needed}
use Rattle.jskw_array.proofs.schema.SchemaNode.validate.Goals as goal

pub returns-then-apply_if_accepted-clause-first : goal.returns-then-apply_if_accepted-clause-first
returns-then-apply_if_accepted-clause-first g c =
    accepted_errors _ c.args.self.now (g.F.Node.Rooted.tree c.args.instance.now) (path_of c.args.location.now)
    c.self.view_is (c.apply_if_accepted.ensures.valid c.if-apply_if_accepted.true)

pub returns-then-apply_if_accepted-clause-counted : goal.returns-then-apply_if_accepted-clause-counted
returns-then-apply_if_accepted-clause-counted g c =
    counted_within _ _ _ c.apply_if_accepted.result c.if-apply_if_accepted.true
    (one_needed c.args.self.now (g.F.Node.Rooted.tree c.args.instance.now)) c.apply_if_accepted.ensures.counted

pub returns-clause-first : goal.returns-clause-first
returns-clause-first g c =
    let tree = g.F.Node.Rooted.tree in
    subst (λ s. IsFirst tree (fail s (tree c.args.instance.now) (path_of c.args.location.now)) c.first_result.result)
    c.self.view_is (c.first_result.ensures.first _ c.report_errors-reported.ensures.reported)
