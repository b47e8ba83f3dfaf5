use Rattle.vs_kernel.proofs.LeavingLemmas.{stop_made, stop_run}
use Rattle.vs_kernel.proofs.moves.stop.Goals as goal

pub returns-clause-run : goal.returns-clause-run
returns-clause-run g c = stop_run c.args.run.now.design.now c.args.run.now c.clear.new.self c.requires.run c.clear.ensures.items c.requires.ends

pub returns-clause-made : goal.returns-clause-made
returns-clause-made g c = stop_made c.args.run.now c.clear.new.self c.clear.ensures.items c.requires.ends
