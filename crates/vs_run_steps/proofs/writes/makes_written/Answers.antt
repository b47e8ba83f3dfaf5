use Rattle.vs_run_steps.proofs.WritesLemmas.{makes_written}
use Rattle.vs_run_steps.proofs.writes.makes_written.Goals as goal

pub returns : goal.returns
returns c = makes_written
