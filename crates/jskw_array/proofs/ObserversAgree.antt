-- The observers of one schema agree.
use Rattle.std.proofs.Common.{◌≡◌, List, ◌++◌, Bool, Result, Ok, Err, ap, ◌∙◌}
use Rattle.jskw_array.specs.Words.{Agree, Appends, IsFirst, Pointer, Schema, Tree, fail, failures_of, holds, is_empty}
use Rattle.jskw_report.proofs.HoldsIsNoFailure.{holds_empty}
use Rattle.jskw_report.specs.declared.error.Fault.{Fault}
use Rattle.jskw_report.specs.declared.error.Fault.TheVariants.{Invalid, Memory}
use Rattle.jskw_report.specs.declared.error.ValidationError.{ValidationError}

pub agreed : {F Node Number Key E : Type 0} (tree : Node → Tree) (s : Schema) (t : Tree) (p : Pointer) (is_valid : Bool)
    (first : Result Unit (Fault F Node Number Key)) (all : Result Unit E)
    (old new : List (ValidationError F Node Number Key))
    → is_valid ≡ holds s t → IsFirst tree (fail s t p) first → Appends tree old new (fail s t p) all
    → Agree tree is_valid first all old new
agreed tree s t p is_valid (Ok u) all old new answer none appended = answer ∙ holds_empty s t p ∙ ap is_empty none
agreed tree s t p is_valid (Err (Invalid e)) (Ok u) old new answer (rest, is) appended =
    (answer ∙ holds_empty s t p ∙ ap is_empty is, rest, appended ∙ ap (λ fs. failures_of tree old ++ fs) is)
agreed tree s t p is_valid (Err (Invalid e)) (Err m) old new answer (rest, is) appended =
    answer ∙ holds_empty s t p ∙ ap is_empty is
agreed tree s t p is_valid (Err (Memory m)) all old new answer first appended = tt
