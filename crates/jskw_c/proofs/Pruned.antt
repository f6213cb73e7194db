-- What is read of an instance is valid exactly where the instance is.
use Rattle.std.proofs.Common.{◌≡◌, List, sym, ap, subst, ◌∙◌}
use Rattle.std.specs.Prelude.{Option, Result}
use Rattle.jskw_value.specs.Pointer.{Pointer}
use Rattle.jskw_value.specs.Tree.{Tree}
use Rattle.jskw_text.specs.Wanted.{IsRead}
use Rattle.jskw_text.specs.declared.wanted.Level.{Level}
use Rattle.jskw_report.specs.Holds.{holds}
use Rattle.jskw_report.specs.Keyword.{Schema}
use Rattle.jskw_wanted.specs.Seen.{Sees}
use Rattle.jskw_wanted.proofs.Pruned.{the_law}
use Rattle.jskw_c.specs.Asked.{ReadsAlike}

alike : (s : Schema) (ls : List Level) (t : Tree) (read : Option (Result Tree Pointer))
    → Sees s ls → IsRead ls t read → ReadsAlike s t read
alike s ls t read sees (u, is, same) =
    (u, is, sym (the_law s ls t sees) ∙ (ap (holds s) same ∙ the_law s ls u sees))

-- the same, where the schema and the levels have two names each
pub reads_alike : (s s' : Schema) (ls ls' : List Level) (t : Tree) (read : Option (Result Tree Pointer))
    → s' ≡ s → ls ≡ ls' → Sees s' ls' → IsRead ls t read → ReadsAlike s t read
reads_alike s s' ls ls' t read named listed sees is =
    subst (λ x. ReadsAlike x t read) named
    (alike s' ls' t read sees (subst (λ x. IsRead x t read) listed is))
