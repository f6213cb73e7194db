use Rattle.std.proofs.Common.{rules, ◌∙◌}
use Rattle.std.proofs.lemmas.Fn.{always_returns_same}
use Rattle.jskw_value.specs.Decimal.{coefficient}
use Rattle.jskw_leaf.specs.Options.{integer_against}
use Rattle.jskw_leaf.proofs.SortedTables.{searched_integers}
use Rattle.jskw_leaf.proofs.enum_.integers.is_in_table.Goals as goal

pub returns : goal.returns
returns c =
    let found = c.binary_search_by.ensures in
    let n = c.args.number.now in
    c.is_ok.ensures.value ∙ searched_integers (coefficient n) n.scale c.args.table.now c.binary_search_by.result
    c.requires found.bound (found.position (integer_against (coefficient n) n.scale)
    (always_returns_same _ _ _ (λ a r g called. (search rules, search rules))))
