use Rattle.std.proofs.Common.{◌∙◌, sym}
use Rattle.vs_run_steps.specs.Runs.{state_of}
use Rattle.vs_kernel.proofs.ActiveLemmas.{activate_next, end_next, inactive_any, rouse_next}
use Rattle.vs_kernel.proofs.state.next_region.Goals as goal

pub returns-then-has_inactive : goal.returns-then-has_inactive
returns-then-has_inactive g c =
    rouse_next (state_of c.args.run.now) c.requires.idle (sym (inactive_any c.args.run.now.design.now c.args.run.now c.has_inactive.result c.requires.run c.has_inactive.ensures) ∙ c.if-has_inactive.true)

pub returns-then-has_due : goal.returns-then-has_due
returns-then-has_due g c =
    activate_next (state_of c.args.run.now) c.requires.idle (sym (inactive_any c.args.run.now.design.now c.args.run.now c.has_inactive.result c.requires.run c.has_inactive.ensures) ∙ c.if-has_inactive.false)
    (sym c.has_due.ensures ∙ c.if-has_due.true)

pub returns : goal.returns
returns g c =
    end_next (state_of c.args.run.now) c.requires.idle (sym (inactive_any c.args.run.now.design.now c.args.run.now c.has_inactive.result c.requires.run c.has_inactive.ensures) ∙ c.if-has_inactive.false)
    (sym c.has_due.ensures ∙ c.if-has_due.false)
