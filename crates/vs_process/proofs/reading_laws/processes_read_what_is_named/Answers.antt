use Rattle.vs_process.proofs.ThreadsNamed.{processes}
use Rattle.vs_process.proofs.reading_laws.processes_read_what_is_named.Goals as goal

pub returns : goal.returns
returns c = processes
