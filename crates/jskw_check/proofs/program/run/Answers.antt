use Rattle.std.proofs.Common.{refl, rules}
use Rattle.jskw_check.proofs.Runs.{runs_told}
use Rattle.jskw_check.proofs.program.run.Goals as goal

pub returns-in_ok-text-in-Wrong-clause-runs : goal.returns-in_ok-text-in-Wrong-clause-runs
returns-in_ok-text-in-Wrong-clause-runs g c =
    rw (← c.in_ok-command_of.ensures, c.in-Wrong.is)
    (runs_told _ _ c.tell.result c.deref.result.now _ _ _ _ (c.tell.ensures.status, refl, search rules)
    c.tell.ensures.tells)
