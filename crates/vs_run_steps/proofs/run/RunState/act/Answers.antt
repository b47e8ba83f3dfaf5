use Rattle.std.proofs.Common.{ℕ, Some, refl, ◌∙◌, ap}
use Rattle.vs_run_steps.specs.declared.step.Went.TheVariants.{On}
use Rattle.vs_run_steps.specs.Runs.{counters_of, state_of}
use Rattle.vs_run_steps.proofs.StepsLemmas.{acts_as, assigned_as, cased_as, delayed_as, repeat_keeps, turn_keeps, updated_as}
use Rattle.vs_run_steps.proofs.run.RunState.act.Goals as goal

pub returns-in-Nothing-clause-acts : goal.returns-in-Nothing-clause-acts
returns-in-Nothing-clause-acts g c = acts_as c.args.number c.args.x.now.action _ c.args.x.now.next c.args.self.now c.args.self.now _ c.in-Nothing.is (refl, refl)

pub returns-in_ok-write-in-Assign-clause-acts : goal.returns-in_ok-write-in-Assign-clause-acts
returns-in_ok-write-in-Assign-clause-acts g c =
    assigned_as c.args.number c.args.x.now.next c.time-time.result c.args.x.now.action _ _ c.args.self.now c.write.new.self c.cut_value-digits.result c.in-Assign.is c.write.ensures.others c.in_ok-write-in-Assign.ensures.state
    c.cut_value-digits.ensures c.time-time.ensures

pub returns-in_ok-assign_chosen-in-AssignChosen-clause-acts : goal.returns-in_ok-assign_chosen-in-AssignChosen-clause-acts
returns-in_ok-assign_chosen-in-AssignChosen-clause-acts g c =
    acts_as c.args.number c.args.x.now.action _ c.args.x.now.next c.args.self.now c.assign_chosen.new.self _ c.in-AssignChosen.is (
      ap (λ r. counters_of r) c.in_ok-assign_chosen-in-AssignChosen.ensures.others,
      refl,
      c.in_ok-assign_chosen-in-AssignChosen.ensures.state,
    )

pub returns-in_ok-assign_any-in-AssignAny-clause-acts : goal.returns-in_ok-assign_any-in-AssignAny-clause-acts
returns-in_ok-assign_any-in-AssignAny-clause-acts g c =
    acts_as c.args.number c.args.x.now.action _ c.args.x.now.next c.args.self.now c.assign_any.new.self _ c.in-AssignAny.is
    (ap (λ r. counters_of r) c.in_ok-assign_any-in-AssignAny.ensures.others, refl, c.in_ok-assign_any-in-AssignAny.ensures.state)

pub returns-in_ok-update-in-Update-clause-acts : goal.returns-in_ok-update-in-Update-clause-acts
returns-in_ok-update-in-Update-clause-acts g c =
    updated_as c.args.number c.args.x.now.next c.time-time.result c.args.x.now.action _ _ c.args.self.now c.update.new.self c.cut_value-digits-in-Update.result c.in-Update.is c.update.ensures.others c.in_ok-update-in-Update.ensures.state
    c.cut_value-digits-in-Update.ensures c.time-time.ensures

pub returns-in_ok-update_chosen-in-UpdateChosen-clause-acts : goal.returns-in_ok-update_chosen-in-UpdateChosen-clause-acts
returns-in_ok-update_chosen-in-UpdateChosen-clause-acts g c =
    acts_as c.args.number c.args.x.now.action _ c.args.x.now.next c.args.self.now c.update_chosen.new.self _ c.in-UpdateChosen.is (
      ap (λ r. counters_of r) c.update_chosen.ensures.others,
      refl,
      c.in_ok-update_chosen-in-UpdateChosen.ensures.state,
    )

pub returns-in_ok-update_any-in-UpdateAny-clause-acts : goal.returns-in_ok-update_any-in-UpdateAny-clause-acts
returns-in_ok-update_any-in-UpdateAny-clause-acts g c =
    acts_as c.args.number c.args.x.now.action _ c.args.x.now.next c.args.self.now c.update_any.new.self _ c.in-UpdateAny.is
    (ap (λ r. counters_of r) c.update_any.ensures.others, refl, c.in_ok-update_any-in-UpdateAny.ensures.state)

pub returns-in-Branch-clause-acts : goal.returns-in-Branch-clause-acts
returns-in-Branch-clause-acts g c = acts_as c.args.number c.args.x.now.action _ c.args.x.now.next c.args.self.now c.args.self.now _ c.in-Branch.is (refl, ap (λ (n : ℕ). On n) c.branch-self.ensures)

pub returns-in-Case-clause-acts : goal.returns-in-Case-clause-acts
returns-in-Case-clause-acts g c =
    cased_as c.args.number c.args.x.now.next c.time-time.result c.case_of.result c.args.x.now.action _ _ c.args.self.now c.in-Case.is c.deref.ensures.value c.case_of.ensures c.time-time.ensures

pub returns-in-Repeat-clause-acts : goal.returns-in-Repeat-clause-acts
returns-in-Repeat-clause-acts g c =
    acts_as c.args.number c.args.x.now.action _ c.args.x.now.next c.args.self.now c.repeat.new.self _ c.in-Repeat.is
    (record { below = c.requires.1.1.1.1; index = ap (λ (n : ℕ). On n) c.repeat.ensures.index; counters = c.repeat.ensures.counters; others = c.repeat.ensures.others })

pub returns-in-Repeat-clause-keeps : goal.returns-in-Repeat-clause-keeps
returns-in-Repeat-clause-keeps g c =
    repeat_keeps g.plan.design g.plan.terms c.args.number c.args.x.now.action _ c.args.self.now c.repeat.new.self c.in-Repeat.is c.requires.1.0 c.repeat.ensures.others c.repeat.ensures.counters

pub returns-in-Turns-clause-acts : goal.returns-in-Turns-clause-acts
returns-in-Turns-clause-acts g c =
    acts_as c.args.number c.args.x.now.action _ c.args.x.now.next c.args.self.now c.turn.new.self _ c.in-Turns.is
    (record { below = c.requires.1.1.1.1; index = ap (λ (n : ℕ). On n) c.turn.ensures.index; counters = c.turn.ensures.counters; others = c.turn.ensures.others })

pub returns-in-Turns-clause-keeps : goal.returns-in-Turns-clause-keeps
returns-in-Turns-clause-keeps g c =
    turn_keeps g.plan.design g.plan.terms c.args.number c.args.x.now.action _ c.args.self.now c.turn.new.self c.in-Turns.is c.requires.1.0 c.turn.ensures.others c.turn.ensures.counters

pub returns-in-Display-clause-acts : goal.returns-in-Display-clause-acts
returns-in-Display-clause-acts g c = acts_as c.args.number c.args.x.now.action _ c.args.x.now.next c.args.self.now c.args.self.now _ c.in-Display.is (refl, refl)

pub returns-in_ok-strobe-in-Strobe-clause-acts : goal.returns-in_ok-strobe-in-Strobe-clause-acts
returns-in_ok-strobe-in-Strobe-clause-acts g c =
    acts_as c.args.number c.args.x.now.action _ c.args.x.now.next c.args.self.now c.strobe.new.self _ c.in-Strobe.is
    (ap (λ r. counters_of r) c.strobe.ensures.others, refl, c.in_ok-strobe-in-Strobe.ensures.state)

pub returns-in-Finish-clause-acts : goal.returns-in-Finish-clause-acts
returns-in-Finish-clause-acts g c = acts_as c.args.number c.args.x.now.action _ c.args.x.now.next c.args.self.now _ _ c.in-Finish.is (refl, refl)

pub returns-in-Delay-clause-acts : goal.returns-in-Delay-clause-acts
returns-in-Delay-clause-acts g c =
    delayed_as c.args.number c.args.x.now.next c.time-time.result _ c.args.x.now.action _ c.pause.result c.args.self.now c.in-Delay.is c.pause.ensures.place c.time-time.ensures

pub returns-in-Wait-clause-acts : goal.returns-in-Wait-clause-acts
returns-in-Wait-clause-acts g c = acts_as c.args.number c.args.x.now.action _ c.args.x.now.next c.args.self.now c.args.self.now _ c.in-Wait.is (refl, refl)
