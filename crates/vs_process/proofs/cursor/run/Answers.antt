use Rattle.std.proofs.Common.{◌≡◌, ℕ, sym, subst}
use Rattle.std.specs.Prelude.{IfOk}
use Rattle.vs_process.specs.declared.draft.Task.{Task}
use Rattle.vs_process.specs.declared.halt.Halt.{Halt}
use Rattle.vs_process.specs.Codes.{job_of}
use Rattle.vs_process.specs.Landings.{landing, lands, EndsSo}
use Rattle.vs_process.specs.Links.{item_of}
use Rattle.vs_process.proofs.cursor.run.Goals as goal

pub returns-in-Perform : goal.returns-in-Perform
returns-in-Perform c = record {
  lands =
      subst (λ (t : Task). IfOk c.perform.result (λ (r : Halt × ℕ). landing r.1 c.perform.new.counters.items ≡ lands c.args.op.now t c.args.counters.now.items c.args.store.now c.args.time))
      (sym c.in-Perform.is) c.perform.ensures.lands;
  ends =
      subst (λ (t : Task). IfOk c.perform.result (λ (r : Halt × ℕ). EndsSo (item_of c.args.counters.now.items (job_of c.args.op.now.counter t)) c.args.store.now c.args.time r.0 c.perform.new.store))
      (sym c.in-Perform.is) c.perform.ensures.ends;
  counters_kept = c.perform.ensures.counters_kept;
  store_kept = c.perform.ensures.store_kept;
}
