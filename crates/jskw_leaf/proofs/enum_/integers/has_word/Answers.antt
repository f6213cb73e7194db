use Rattle.std.proofs.Common.{◌∙◌}
use Rattle.jskw_leaf.proofs.SortedTables.{searched_words}
use Rattle.jskw_leaf.proofs.enum_.integers.has_word.Goals as goal

pub returns : goal.returns
returns c =
    let found = c.binary_search.ensures in
    c.is_ok.ensures.value ∙ searched_words c.args.integer.now c.args.table.now c.binary_search.result c.requires
    found.bound found.position
