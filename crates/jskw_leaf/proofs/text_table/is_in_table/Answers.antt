use Rattle.std.proofs.Common.{rules, ◌∙◌}
use Rattle.std.proofs.lemmas.Fn.{always_returns_same}
use Rattle.jskw_leaf.specs.Options.{text_against}
use Rattle.jskw_leaf.proofs.SortedTables.{searched_texts}
use Rattle.jskw_leaf.proofs.text_table.is_in_table.Goals as goal

pub returns : goal.returns
returns c =
    let found = c.binary_search_by.ensures in
    c.is_ok.ensures.value ∙ searched_texts c.args.text.now c.args.table.now c.binary_search_by.result c.requires
    found.bound (found.position (text_against c.args.text.now)
    (always_returns_same _ _ _ (λ a r g called. (search rules, search rules))))
