use Rattle.std.proofs.Common.{ap}
use Rattle.vs_elab_statements.specs.Members.{setting}
use Rattle.vs_elaborate.specs.passes.Filling.{Runs, RunsNot}
use Rattle.vs_elab_statements.specs.vs_scopes.proofs.AnswerLemmas.{grows_same}
use Rattle.vs_elaborate.proofs.FillingLemmas.{setting_some, runs_still}
use Rattle.vs_elaborate.proofs.processes.run_setting.Goals as goal

pub returns-in-Some : goal.returns-in-Some
returns-in-Some c envs s f =
    grows_same (Runs envs s c.args.first c.args.contents.now) (Runs envs s c.args.first c.run_value.new.contents) (RunsNot envs s) _ _ c.run_value.result (setting_some c.args.declarator.now.name.items _ c.args.declarator.now.value c.in-Some.value c.deref.ensures.value c.in-Some.is) (c.run_value.ensures envs s f)

pub returns-in-None : goal.returns-in-None
returns-in-None c envs s f start done h = runs_still envs s c.args.first c.args.contents.now start done _ (ap (setting c.args.declarator.now.name.items) c.in-None.is) h
