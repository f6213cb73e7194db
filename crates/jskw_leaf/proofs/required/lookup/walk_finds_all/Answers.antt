use Rattle.std.proofs.Common.{◌≤◌, count_by, length, ap, sym, ◌∙◌, arith}
use Rattle.std.specs.Map.{keys_of}
use Rattle.jskw_value.specs.Tree.{names as names_of}
use Rattle.jskw_leaf.specs.Required.{is_among}
use Rattle.jskw_leaf.proofs.FoundNames.{count_hit, found_at_most, all_found}
use Rattle.jskw_leaf.proofs.required.lookup.walk_finds_all.Goals as goal

pub overflow_add-found : goal.overflow_add-found
overflow_add-found g c =
    let names = g.L.Names.names c.args.names.now in
    let more =
    count_hit (is_among names) _ _ _ (ap keys_of c.in-Some.ensures.steps)
    (sym c.contains.ensures ∙ c.if-contains.true) in
    let most =
    found_at_most (g.F.Node.Rooted.tree c.args.object.now) names c.walk-text-items.ensures.distinct
    c.len-count.ensures.distinct in
    omega (arith, more, most, c.loop-text.invariant.1, c.len-count.ensures.count, c.len-count.type_inv)

pub returns-then-found-count : goal.returns-then-found-count
returns-then-found-count g c =
    let t = g.F.Node.Rooted.tree c.args.object.now in
    let names = g.L.Names.names c.args.names.now in
    let more =
    count_hit (is_among names) _ _ _ (ap keys_of c.in-Some.ensures.steps)
    (sym c.contains.ensures ∙ c.if-contains.true) in
    let enough : length names ≤ count_by (is_among names) (names_of t) =
    omega (arith, more, c.loop-text.invariant.1, c.len-count.ensures.count, c.if-found-count.true) in
    sym (all_found t names c.walk-text-items.ensures.distinct c.len-count.ensures.distinct enough)
