use Rattle.vs_run_steps.proofs.run.RunState.assign_chosen.Given as goal

abbrev pub ghost-write_any : goal.ghost-write_any
ghost-write_any g a = g.plan

abbrev pub ghost-write : goal.ghost-write
ghost-write g a = g.plan
