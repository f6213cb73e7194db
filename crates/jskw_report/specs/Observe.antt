-- What an observer owes to the failures of its keyword, and to the count of applications.
use Rattle.std.specs.Prelude.{◌≡◌, ◌≤◌, ◌<◌, ◌+◌, ◌-◌, max, ℕ, List, [], ◌∷◌, ◌++◌, length, take, map, Bool, true}
use Rattle.std.specs.Prelude.{false, Option, Some, None, Result, Ok, Err, OnOk, ⊤}
use Rattle.jskw_value.specs.Pointer.{Pointer}
use Rattle.jskw_value.specs.Tree.{Tree}
use Rattle.jskw_report.specs.Kind.{ErrorKind}
use Rattle.jskw_report.specs.Fail.{Failure, unless}
use Rattle.jskw_report.specs.Errors.{failure_of, failures_of}
use Rattle.jskw_report.specs.declared.error.Fault.{Fault}
use Rattle.jskw_report.specs.declared.error.Fault.TheVariants as fault
use Rattle.jskw_report.specs.declared.error.Stop.{Stop}
use Rattle.jskw_report.specs.declared.error.Stop.TheVariants.{Invalid, Memory}
use Rattle.jskw_report.specs.declared.error.ValidationError.{ValidationError}
use Rattle.jskw_report.specs.declared.report.Report.{Report}
use Rattle.jskw_report.specs.declared.report.Report.TheVariants.{First, Listed}

-- F is a representation, with its types of nodes, of numbers and of prepared keys; a node stands for a tree

-- Ok if nothing fails, else the first failure; a lack of memory says nothing
abbrev pub IsFirst : {F Node Number Key : Type 0} → (Node → Tree) → List Failure → Result Unit (Fault F Node Number Key)
    → Type 0
IsFirst tree fs (Ok u) = fs ≡ []
IsFirst tree fs (Err (fault.Invalid e)) = (rest : List Failure) × (fs ≡ failure_of tree e ∷ rest)
IsFirst tree fs (Err (fault.Memory e)) = ⊤

-- `now` is `old` followed by the beginning of `all` before `rest`
pub record Collects (old now rest all : List Failure) : Type 0 where
  pub so_far : List Failure
  pub is_now : now ≡ old ++ so_far
  pub is_all : so_far ++ rest ≡ all

-- `new` is `old` followed by a beginning of `all`
pub record AppendsBeginning (old new all : List Failure) : Type 0 where
  pub rest : List Failure
  pub collects : Collects old new rest all

-- `new` is `old` followed by all, or, if memory ran out, by a beginning of all
abbrev pub AppendsFailures : {E : Type 0} → List Failure → List Failure → List Failure → Result Unit E → Type 0
AppendsFailures old new all (Ok u) = new ≡ old ++ all
AppendsFailures old new all (Err e) = AppendsBeginning old new all

-- the errors are the old ones followed by all these failures, or, if memory ran out, by a beginning of them
abbrev pub Appends : {F Node Number Key E : Type 0} → (Node → Tree) → List (ValidationError F Node Number Key)
    → List (ValidationError F Node Number Key) → List Failure → Result Unit E → Type 0
Appends tree old new fs r = AppendsFailures (failures_of tree old) (failures_of tree new) fs r

-- whether a report keeps a list of errors; otherwise it keeps the first alone
abbrev pub keeps_list : {F Node Number Key : Type 0} → Report F Node Number Key → Bool
keeps_list (First e) = false
keeps_list (Listed es) = true

-- how many more errors a report takes; all where it is None
abbrev pub room : {F Node Number Key : Type 0} → Report F Node Number Key → Option ℕ
room (First None) = Some 1
room (First (Some e)) = Some 0
room (Listed es) = es.room

-- what the errors of a report say
abbrev pub found : {F Node Number Key : Type 0} → (Node → Tree) → Report F Node Number Key → List Failure
found tree (First None) = []
found tree (First (Some e)) = failure_of tree e ∷ []
found tree (Listed es) = failures_of tree es.errors.items

-- the first n failures, or all where n is None
abbrev pub limited : Option ℕ → List Failure → List Failure
limited None fs = fs
limited (Some n) fs = take n fs

-- the room that is left behind the failures
abbrev pub room_behind : List Failure → Option ℕ → Option ℕ
room_behind fs None = None
room_behind fs (Some n) = Some (n - length fs)

-- there are none of them, or there is room for more behind them
abbrev pub Fits : Option ℕ → List Failure → Type 0
Fits None fs = ⊤
Fits (Some n) fs = length fs < max n 1

-- there is one at least, and there is no room for more behind them
abbrev pub Fills : Option ℕ → List Failure → Type 0
Fills None fs = ⊥
Fills (Some n) fs = max n 1 ≤ length fs

-- the failures are behind the old ones, as many as there was room for: Ok says that more are wanted
abbrev pub Leaves : Option ℕ → List Failure → List Failure → List Failure → Result Unit Stop → Type 0
Leaves n old new fs (Ok u) = (new ≡ old ++ fs) × Fits n fs
Leaves n old new fs (Err Invalid) = (new ≡ old ++ limited n fs) × Fills n fs
Leaves n old new fs (Err (Memory e)) = AppendsBeginning old new (limited n fs)

-- the failures were reported, as far as they are wanted
pub record Reports {F Node Number Key : Type 0} (tree : Node → Tree) (old new : Report F Node Number Key)
    (fs : List Failure) (r : Result Unit Stop) : Type 0 where
  pub same : keeps_list new ≡ keeps_list old
  pub leaves : Leaves (room old) (found tree old) (found tree new) fs r
  pub less : OnOk r (room new ≡ room_behind fs (room old))

-- the count went from `old` to `new`, up by no more than the bound
pub record CountsUpTo (old new bound : ℕ) : Type 0 where
  pub from : old ≤ new
  pub to : new ≤ old + bound

-- the failure of one kind at the keyword location q, where the assertion does not hold of t, whose instance location
-- is p
abbrev pub failures_unless : Bool → ErrorKind → Pointer → Tree → Pointer → List Failure
failures_unless holds kind q t p =
    map (λ k. record { kind = k; instance_location = p; keyword_location = q; tree = t }) (unless holds (Some kind))
