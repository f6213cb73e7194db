use Rattle.jskw_report.specs.Paths.{path_of}
use Rattle.jskw_leaf.proofs.BareTypeChecks.{unit_of}
use Rattle.jskw_leaf.proofs.in_place.bare.BareItemsValidate.evaluate.Goals as goal

pub returns-in-Number-clause-gives : goal.returns-in-Number-clause-gives
returns-in-Number-clause-gives g c =
    let t = g.F.Node.Rooted.tree c.args.instance.now in
    let p = path_of c.args.location.now in
    unit_of c.evaluate.result t p c.in-Number.is c.evaluate.ensures.gives

pub returns-in-String-clause-gives : goal.returns-in-String-clause-gives
returns-in-String-clause-gives g c =
    let t = g.F.Node.Rooted.tree c.args.instance.now in
    let p = path_of c.args.location.now in
    unit_of c.evaluate-in-String.result t p c.in-String.is c.evaluate-in-String.ensures.gives

pub returns-in-Boolean-clause-gives : goal.returns-in-Boolean-clause-gives
returns-in-Boolean-clause-gives g c =
    let t = g.F.Node.Rooted.tree c.args.instance.now in
    let p = path_of c.args.location.now in
    unit_of c.evaluate-in-Boolean.result t p c.in-Boolean.is c.evaluate-in-Boolean.ensures.gives

pub returns-in-Integer-clause-gives : goal.returns-in-Integer-clause-gives
returns-in-Integer-clause-gives g c =
    let t = g.F.Node.Rooted.tree c.args.instance.now in
    let p = path_of c.args.location.now in
    unit_of c.evaluate-in-Integer.result t p c.in-Integer.is c.evaluate-in-Integer.ensures.gives

pub returns-in-IntegerDraft4-clause-gives : goal.returns-in-IntegerDraft4-clause-gives
returns-in-IntegerDraft4-clause-gives g c =
    let t = g.F.Node.Rooted.tree c.args.instance.now in
    let p = path_of c.args.location.now in
    unit_of c.evaluate-in-IntegerDraft4.result t p c.in-IntegerDraft4.is c.evaluate-in-IntegerDraft4.ensures.gives
