use Rattle.vs_run_steps.proofs.writes.Watched.write_any.Given as goal

abbrev pub ghost-write_words : goal.ghost-write_words
ghost-write_words g a = g.signals

abbrev pub ghost-write : goal.ghost-write
ghost-write g a = g.signals
