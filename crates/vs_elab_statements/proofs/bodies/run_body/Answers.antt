use Rattle.vs_elab_statements.proofs.StatementLemmas.{means_run_all}
use Rattle.vs_elab_statements.proofs.bodies.run_body.Goals as goal

pub returns-clause-answer : goal.returns-clause-answer
returns-clause-answer c envs p v = means_run_all c.args.view.now.list.now envs p c.args.s.now _ c.statement.result (c.statement.ensures.answer envs p v)
