use Rattle.vs_run_steps.proofs.run.RunState.run_process.Given as goal

abbrev pub ghost-take_steps : goal.ghost-take_steps
ghost-take_steps g a = g.plan

abbrev pub ghost-move_process : goal.ghost-move_process
ghost-move_process g a = g.plan
