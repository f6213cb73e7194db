use Rattle.std.proofs.Common.{◌∙◌, rules, is_some, ap, sym}
use Rattle.std.specs.Map.{keys_of}
use Rattle.jskw_value.specs.Walk.{left}
use Rattle.jskw_leaf.proofs.NameMarks.{mark_end, mark_miss, mark_hit, mark_full}
use Rattle.jskw_leaf.proofs.required.lookup.found_by_walk.Goals as goal

pub returns-then-found-all : goal.returns-then-found-all
returns-then-found-all g c =
    let t = g.F.Node.Rooted.tree c.args.object.now in
    let names = g.L.Names.names c.args.names.now in
    let rest = keys_of (left g.F.Node.Rooted.tree c.next.new.self) in
    mark_full _ rest t names (search rules) (rw c.bit-found.ensures.value
    (mark_hit c.loop-text.found c.in-Some-place_of.place c.in-Some.text.now rest t names c.len.ensures.distinct
    c.in-Some-place_of.ensures.place.1
    (rw c.in-Some.ensures.steps at c.loop-text.invariant)))

pub loop-text-preserved-else-found-all : goal.loop-text-preserved-else-found-all
loop-text-preserved-else-found-all g c =
    rw c.bit-found.ensures.value (mark_hit _ _ _ _ _ _ c.len.ensures.distinct c.in-Some-place_of.ensures.place.1
    (rw c.in-Some.ensures.steps at c.loop-text.invariant))

pub loop-text-preserved : goal.loop-text-preserved
loop-text-preserved g c =
    mark_miss _ _ _ _ _ (sym c.place_of.ensures.found ∙ ap is_some c.in_default.is)
    (rw c.in-Some.ensures.steps at c.loop-text.invariant)

pub returns : goal.returns
returns g c = mark_end _ _ _ (rw c.in-None.ensures.steps.0 at c.loop-text.invariant)
