use Rattle.std.proofs.Common.{◌≡◌, ◌++◌, map, take, true}
use Rattle.std.specs.List.{list_all}
use Rattle.std.specs.Map.{values_of}
use Rattle.jskw_value.specs.DecimalTree.{decimal_tree, member_tree}
use Rattle.jskw_value.specs.Serde.{value_tree, entry_tree as value_entry}
use Rattle.jskw_value.specs.Tree.{is_lawful as lawful}
use Rattle.jskw_value.proofs.serde_decimals.+decimals.Given as goal

abbrev pub invariant-trees_of_items-loop-item : goal.invariant-trees_of_items-loop-item
invariant-trees_of_items-loop-item l = map decimal_tree l.trees.items ≡ map value_tree (take l.item-index l.item-items)

abbrev pub invariant-trees_of_members-loop-name : goal.invariant-trees_of_members-loop-name
invariant-trees_of_members-loop-name l = record {
  made : map member_tree l.list.items ++ map value_entry l.name-iterator ≡ map value_entry l.members.entries;
  lawful : list_all (λ v. lawful (value_tree v)) (values_of l.name-iterator) ≡ true;
}
