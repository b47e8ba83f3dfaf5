use Rattle.vs_process.proofs.ChosenLemmas.{chosen_read}
use Rattle.vs_run_steps.proofs.run.RunState.update_chosen.Goals as goal

pub part-part-requires : goal.part-part-requires
part-part-requires g c = chosen_read g.plan.design.signals c.args.place.now c.args.self.now.watched.store c.requires.1.1.0 c.requires.1.0.store
