use Rattle.std.proofs.Common.{rules, ◌∙◌}
use Rattle.std.proofs.lemmas.Fn.{always_returns_same}
use Rattle.jskw_leaf.specs.Options.{text_order}
use Rattle.jskw_leaf.proofs.SortedTables.{searched_by_hashes}
use Rattle.jskw_leaf.proofs.enum_.hashed_text.is_found.Goals as goal

pub returns : goal.returns
returns c =
    let found = c.binary_search_by.ensures in
    let text = c.args.text.now in
    c.is_ok.ensures.value ∙ searched_by_hashes text c.args.table.now c.binary_search_by.result c.requires.sorted
    found.bound (found.position (λ w. text_order w text)
    (always_returns_same _ _ _ (λ a r g called. (search rules, search rules))))
