use Rattle.std.proofs.Common.{◌∙◌, ℕ, ap}
use Rattle.vs_process.specs.declared.gait.Gait.TheVariants.{Fresh}
use Rattle.vs_process.specs.Places.{Todo, active_at}
use Rattle.vs_process.specs.Scripts.{todo_on}
use Rattle.vs_run_active.proofs.process.Process.start.Goals as goal

pub returns-clause-place : goal.returns-clause-place
returns-clause-place c = λ body counters starts.
    ap (λ (i : ℕ). active_at Fresh (todo_on c.args.script.now counters i)) c.start.ensures ∙ ap (λ (t : Todo). active_at Fresh t) (starts counters)
