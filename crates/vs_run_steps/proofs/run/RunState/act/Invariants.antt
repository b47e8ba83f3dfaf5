use Rattle.vs_run_steps.proofs.run.RunState.act.Given as goal

abbrev pub ghost-write : goal.ghost-write
ghost-write g a = g.plan

abbrev pub ghost-assign_chosen : goal.ghost-assign_chosen
ghost-assign_chosen g a = g.plan

abbrev pub ghost-assign_any : goal.ghost-assign_any
ghost-assign_any g a = g.plan

abbrev pub ghost-update : goal.ghost-update
ghost-update g a = g.plan

abbrev pub ghost-update_chosen : goal.ghost-update_chosen
ghost-update_chosen g a = g.plan

abbrev pub ghost-update_any : goal.ghost-update_any
ghost-update_any g a = g.plan
