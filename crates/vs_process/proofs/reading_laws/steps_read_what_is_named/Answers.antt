use Rattle.vs_process.proofs.ThreadsNamed.{all_there, left, lines, named, strobes}
use Rattle.vs_process.proofs.StepReads.{step_reads}
use Rattle.vs_process.proofs.reading_laws.steps_read_what_is_named.Goals as goal

pub returns : goal.returns
returns c = record { kept = step_reads; named = named; lines = lines; strobes = strobes; left = left; begun = all_there }
