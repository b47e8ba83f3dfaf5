use Rattle.vs_process.proofs.Times.{trace_rises}
use Rattle.vs_process.proofs.process_laws.times_rise.Goals as goal

pub returns : goal.returns
returns c = trace_rises
