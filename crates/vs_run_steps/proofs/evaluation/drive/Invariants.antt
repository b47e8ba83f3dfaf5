use Rattle.vs_run_steps.proofs.evaluation.drive.Given as goal

abbrev pub ghost-drive_any : goal.ghost-drive_any
ghost-drive_any g a = g.plan

abbrev pub ghost-write : goal.ghost-write
ghost-write g a = g.plan
