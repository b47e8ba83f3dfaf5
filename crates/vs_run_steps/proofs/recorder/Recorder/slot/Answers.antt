use Rattle.vs_vcd_writing.proofs.ProgressLemmas.{vcd_slots-push}
use Rattle.vs_run_steps.proofs.recorder.Recorder.slot.Goals as goal

pub returns-clause-pieces : goal.returns-clause-pieces
returns-clause-pieces g c = vcd_slots-push
