use Rattle.std.proofs.Common.{rules, ◌≡◌, map, arith}
use Rattle.std.proofs.lemmas.Grind.{common_steps}
use Rattle.serde_json.specs.declared.value.Value.{the_lemmas}
use Rattle.jskw_value.specs.DecimalTree.{member_tree}
use Rattle.jskw_value.specs.Serde.{entry_tree as value_entry}
use Rattle.jskw_value.proofs.SerdeDecimals.{lawful_items, lawful_values, sorted_like}
use Rattle.jskw_value.proofs.serde_decimals.+decimals.Goals as goal

pub tree_of_value-trees_of_items-requires : goal.tree_of_value-trees_of_items-requires
tree_of_value-trees_of_items-requires t c = (search (rules, the_lemmas), lawful_items _ _ c.in-Array.is c.requires)

pub tree_of_value-trees_of_members-requires : goal.tree_of_value-trees_of_members-requires
tree_of_value-trees_of_members-requires t c = (search (rules, the_lemmas), lawful_values _ _ c.in-Object.is c.requires)

pub trees_of_members-of_sorted-requires : goal.trees_of_members-of_sorted-requires
trees_of_members-of_sorted-requires t c =
    let all : map member_tree c.loop-name.list.items ≡ map value_entry c.args.members.now.entries =
    grind (arith, common_steps) in
    sorted_like c.loop-name.list.items c.args.members.now all c.iter-name-items.ensures.ordered
