-- What a look-up by a key says of a name.
use Rattle.std.proofs.Common.{◌≡◌, ℕ, List, Option, Some, None, is_some, option_map, ap, ◌∙◌}
use Rattle.std.proofs.lemmas.Map.Made.{is_some-lookup}
use Rattle.std.specs.Str.{bytes_eq}
use Rattle.jskw_value.specs.Tree.{Tree, get, has_name, members}

pub found_by_key : {N : Type 0} (tree : N → Tree) (r : Option N) (k : List ℕ) (t : Tree) → option_map tree r ≡ get k t
    → is_some r ≡ has_name t k
found_by_key tree None k t e = ap is_some e ∙ is_some-lookup (bytes_eq k) (members t)
found_by_key tree (Some x) k t e = ap is_some e ∙ is_some-lookup (bytes_eq k) (members t)
