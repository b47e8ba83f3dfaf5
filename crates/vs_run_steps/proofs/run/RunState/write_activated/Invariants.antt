use Rattle.vs_run_steps.proofs.run.RunState.write_activated.Given as goal

abbrev pub ghost-write_any : goal.ghost-write_any
ghost-write_any g a = g.plan.design.signals
