-- The tree of a node that counts how often it is asked.
use Rattle.jskw_value.specs.DecimalTree.{items_from}
use Rattle.jskw_value.specs.Tree.{Tree, null, array}
use Rattle.jskw_rows.specs.declared.asked.Asked.{Asked, fold-Asked}
use Rattle.jskw_rows.specs.declared.asked.Asked.TheOpen.{Asked-F}

-- one level, with each tree inside already seen
abbrev pub asked_step : Asked-F Tree → Tree
asked_step (Asked-F.Null c) = null
asked_step (Asked-F.Array c v) = array (items_from v.items)

-- the tree that a node stands for
abbrev pub asked_tree : Asked → Tree
asked_tree = fold-Asked Tree asked_step
