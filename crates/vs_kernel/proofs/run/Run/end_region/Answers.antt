use Rattle.vs_run_active.specs.vs_process.proofs.Results.{on_err}
use Rattle.vs_run_steps.proofs.TurnsLemmas.{turned_part}
use Rattle.vs_kernel.proofs.run.Run.end_region.Goals as goal

pub returns-in_err-list_woken-clause-err : goal.returns-in_err-list_woken-clause-err
returns-in_err-list_woken-clause-err g c = on_err _ (turned_part c.in_ok-goes_on.ensures.ok)
