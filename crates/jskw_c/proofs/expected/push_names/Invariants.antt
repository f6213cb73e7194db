use Rattle.std.proofs.Common.{◌≡◌, ◌++◌, drop, false, filter, map}
use Rattle.jskw_value.specs.Types.{contains, type_name}
use Rattle.jskw_c.specs.Evaluated.{strings_text}
use Rattle.jskw_c.specs.Expected.{all_types}
use Rattle.jskw_c.proofs.expected.push_names.Given as goal

-- what is written, with the names of the types that are left
abbrev pub invariant-loop-json_type : goal.invariant-loop-json_type
invariant-loop-json_type l =
    l.text.items
    ++ strings_text l.later (map type_name (filter (contains l.types) (drop l.json_type-index l.json_type-items)))
    ≡ l.initial.text.items ++ strings_text false (map type_name (filter (contains l.types) all_types))
