use Rattle.vs_run_steps.proofs.evaluation.drive_any.Given as goal

abbrev pub ghost-write_any : goal.ghost-write_any
ghost-write_any g a = g.plan
