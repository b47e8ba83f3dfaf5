use Rattle.vs_process.proofs.Named.{processes}
use Rattle.vs_process.proofs.writing_laws.processes_write_what_is_named.Goals as goal

pub returns : goal.returns
returns c = processes
