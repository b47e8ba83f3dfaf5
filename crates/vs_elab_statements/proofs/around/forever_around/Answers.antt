use Rattle.std.proofs.Common.{refl}
use Rattle.vs_elab_statements.proofs.StatementLemmas.{states_Forever}
use Rattle.vs_elab_statements.proofs.around.forever_around.Goals as goal

pub returns-clause-answer : goal.returns-clause-answer
returns-clause-answer c list envs p first next x h = states_Forever list envs p first c.args.inner.0 next x c.in_ok-new.field-0 x.value c.args.inner.1 h refl c.in_ok-new.ensures.ok
