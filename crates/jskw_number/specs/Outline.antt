-- Sets of arrays and objects of which one need not look at the items and members.
use Rattle.std.specs.Prelude.{◌≡◌, length, nat_le, ◌&&◌, Bool, false, true}
use Rattle.jskw_value.specs.Tree.{Tree, array, items, object}
use Rattle.jskw_report.specs.Holds.{keyword_holds}
use Rattle.jskw_report.specs.Keyword.{Keyword}
use Rattle.jskw_number.specs.declared.outline.Outline.{Outline}

-- the tree is an array with that many items, or an object, if objects are in the set
abbrev pub in_outline : Outline → Tree → Bool
in_outline o (array ts) = nat_le o.least (length (items (array ts))) && nat_le (length (items (array ts))) o.most
in_outline o (object ms) = o.objects
in_outline o t = false

-- the keyword holds of every array and object of the set
abbrev pub AcceptsOutline : Outline → Keyword → Type 0
AcceptsOutline o k = (t : Tree) → in_outline o t ≡ true → keyword_holds k t ≡ true
