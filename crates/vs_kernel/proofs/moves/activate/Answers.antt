use Rattle.vs_run_steps.specs.Runs.{state_of}
use Rattle.vs_kernel.proofs.LeavingLemmas.{activate_idle, activate_made, activate_run}
use Rattle.vs_kernel.proofs.moves.activate.Goals as goal

pub activate-requires : goal.activate-requires
activate-requires g c = activate_idle (state_of c.args.run.now) c.requires.enabled

pub returns-clause-run : goal.returns-clause-run
returns-clause-run g c =
    activate_run c.args.run.now.design.now c.args.run.now c.activate.new.self c.requires.run c.activate.ensures.updates c.activate.ensures.time c.activate.ensures.inactive c.activate.ensures.sleepers
    c.activate.ensures.signals

pub returns-clause-made : goal.returns-clause-made
returns-clause-made g c = activate_made c.args.run.now c.activate.new.self c.activate.ensures.updates c.activate.ensures.time
