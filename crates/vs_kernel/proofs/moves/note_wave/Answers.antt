use Rattle.vs_kernel.proofs.RunLemmas.{queue_run}
use Rattle.vs_kernel.proofs.moves.note_wave.Goals as goal

pub returns-clause-run : goal.returns-clause-run
returns-clause-run g c = λ design h. queue_run design c.args.run.now c.set_wave.new.self h
