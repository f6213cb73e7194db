use Rattle.std.proofs.Common.{◌≡◌, arith, rules}
use Rattle.jskw_value.specs.Tree.{items}
use Rattle.jskw_value.specs.declared.types.JsonType.TheVariants.{Integer}
use Rattle.jskw_leaf.proofs.TypeWalks.{four_more}
use Rattle.jskw_leaf.proofs.in_place.item_type.match_four.Goals.{in-Integer, in_default}
use Rattle.jskw_leaf.proofs.in_place.item_type.match_four.Goals as goal

pub returns-then-matches : goal.returns-then-matches
returns-then-matches g c =
    let is : g.T.TypeTest.json_type ≡ Integer =
    elim c.match-matches.branch [ in-Integer w ↦ search rules | in_default w ↦ search rules ] in
    four_more g.T.TypeTest.json_type is g.T.TypeTest.rule (items (g.F.Node.Rooted.tree c.args.instance.now))
    c.args.index _ _ _ _ (omega (arith, c.requires.four)) c.item-first.ensures.value c.item-second.ensures.value
    c.item-third.ensures.value c.item-fourth.ensures.value c.are_integers.ensures
