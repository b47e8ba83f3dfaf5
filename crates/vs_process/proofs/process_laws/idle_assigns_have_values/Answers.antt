use Rattle.vs_process.proofs.Idle.{idle_have_values}
use Rattle.vs_process.proofs.process_laws.idle_assigns_have_values.Goals as goal

pub returns : goal.returns
returns c = idle_have_values
