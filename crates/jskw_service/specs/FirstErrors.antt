-- Errors up to a limit.
use Rattle.std.specs.Prelude.{ℕ, List, eqb, if◌then◌else◌, take}
use Rattle.jskw_report.specs.Fail.{Failure}

-- the first so many, or all for 0
abbrev pub first_of : ℕ → List Failure → List Failure
first_of n fs = if eqb n 0 then fs else take n fs
