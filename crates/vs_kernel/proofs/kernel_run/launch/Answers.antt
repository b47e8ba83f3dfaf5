use Rattle.vs_run_regions.specs.vs_process.proofs.Results.{on_err}
use Rattle.vs_kernel.specs.vs_run_steps.proofs.Appending.{append_none}
use Rattle.vs_kernel.proofs.RunsLemmas.{header_failed}
use Rattle.vs_kernel.proofs.kernel_run.launch.Goals as goal

pub returns-in_err-codes-clause-begun : goal.returns-in_err-codes-clause-begun
returns-in_err-codes-clause-begun g c = on_err _ (header_failed (0, append_none _))
