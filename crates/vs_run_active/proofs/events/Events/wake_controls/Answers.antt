use Rattle.std.proofs.Common.{sym, ◌∙◌, subst}
use Rattle.std.proofs.lemmas.Option.{same_Some}
use Rattle.vs_run_active.specs.declared.rows.Row.{Row}
use Rattle.vs_run_active.specs.Wakes.{AreWalked}
use Rattle.vs_run_active.proofs.events.Events.wake_controls.Goals as goal

pub returns-clause-processes : goal.returns-clause-processes
returns-clause-processes c = λ row there.
    subst (λ (r : Row). AreWalked c.args.tables.now.watchers.items r c.args.word c.args.change c.args.self.now.processes c.wake_falling.new.self.processes)
    (same_Some c.row-row.result row (sym c.row-row.ensures.there ∙ there))
    (record {
      first = c.wake_any.new.self.processes;
      second = c.wake_rising.new.self.processes;
      any = c.in_ok-wake_any.ensures.processes;
      rising = c.in_ok-wake_rising.ensures.processes;
      falling = c.in_ok-wake_falling.ensures.processes;
    })
