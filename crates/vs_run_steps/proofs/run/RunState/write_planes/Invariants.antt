use Rattle.vs_run_steps.proofs.run.RunState.write_planes.Given as goal

abbrev pub ghost-write : goal.ghost-write
ghost-write g a = g.plan.design.signals
