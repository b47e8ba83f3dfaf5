use Rattle.std.proofs.Common.{ap}
use Rattle.vs_elab_statements.specs.vs_scopes.specs.scopes_passes.Parts.{read_end}
use Rattle.vs_elab_statements.specs.Members.{setting}
use Rattle.vs_elaborate.proofs.FillingLemmas.{runs_still}
use Rattle.vs_elaborate.proofs.processes.run_port.Goals as goal

pub returns-in-None : goal.returns-in-None
returns-in-None c envs s f start done h = runs_still envs s c.args.first c.args.contents.now start done _ (ap (λ z. setting c.args.port.now.name.now (read_end z)) c.in-None.is) h
