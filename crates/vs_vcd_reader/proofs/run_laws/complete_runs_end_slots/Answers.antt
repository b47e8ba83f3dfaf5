use Rattle.vs_vcd_reader.proofs.EndLemmas.{complete_ended}
use Rattle.vs_vcd_reader.proofs.run_laws.complete_runs_end_slots.Goals as goal

pub returns : goal.returns
returns c = complete_ended
