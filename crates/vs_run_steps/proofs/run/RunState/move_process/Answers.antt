use Rattle.vs_run_steps.proofs.RunsLemmas.{stand_later, stood_agrees, stood_state}
use Rattle.vs_run_steps.proofs.run.RunState.move_process.Goals as goal

pub enter-requires : goal.enter-requires
enter-requires g c = stand_later c.args.process.script.now c.args.self.now.regions.time c.args.process.wait c.requires.1.1.1

pub returns-clause-agrees : goal.returns-clause-agrees
returns-clause-agrees g c =
    stood_agrees g.plan.design g.plan.terms c.args.self.now c.enter.new.regions c.put.new.self c.args.number c.args.process c.requires.1.0 c.requires.1.1.0 c.requires.1.1.1 c.put.ensures c.in_ok-enter.ensures

pub returns-clause-state : goal.returns-clause-state
returns-clause-state g c = stood_state c.args.self.now c.enter.new.regions c.put.new.self c.args.number c.args.process c.put.ensures c.in_ok-enter.ensures
