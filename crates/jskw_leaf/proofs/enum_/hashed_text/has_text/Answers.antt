use Rattle.std.proofs.Common.{rules, sym}
use Rattle.std.proofs.lemmas.Fn.{always_returns_same}
use Rattle.jskw_leaf.specs.Options.{hash_of}
use Rattle.jskw_leaf.proofs.SortedTables.{no_hash}
use Rattle.jskw_leaf.proofs.enum_.hashed_text.has_text.Goals as goal

pub returns-in-Err : goal.returns-in-Err
returns-in-Err c =
    sym (no_hash c.args.text.now c.args.table.now c.in-Err.field-0 c.requires
    (rw (← c.hash_of-hash.ensures) (c.in-Err.ensures.position hash_of
    (always_returns_same _ _ _ (λ a r g called. (search rules, search rules)))))
    c.in-Err.ensures.bound)
