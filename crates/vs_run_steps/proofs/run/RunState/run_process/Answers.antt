use Rattle.std.proofs.Common.{◌≡◌, ℕ, Option, List, [], refl, sym, ◌∙◌, ap, subst}
use Rattle.std.proofs.lemmas.Bool.{false≢true}
use Rattle.vs_process.specs.Places.{Place, is_going}
use Rattle.vs_process.specs.Scripts.{todo_on}
use Rattle.vs_run_active.specs.vs_process.specs.Executions.{if_some}
use Rattle.vs_run_active.specs.vs_process.specs.States.{State}
use Rattle.vs_run_active.specs.vs_process.proofs.Results.{on_err}
use Rattle.vs_run_active.specs.ProcessPlaces.{place_by}
use Rattle.vs_run_active.specs.Taken.{placed}
use Rattle.std.proofs.Common.{slice_get}
use Rattle.vs_design.specs.vs_logic4.proofs.Basics.{set_here as set_there}
use Rattle.vs_run_steps.specs.Turns.{IsReached}
use Rattle.vs_run_steps.proofs.TakenLemmas.{taken_reached}
use Rattle.vs_run_steps.specs.Runs.{counters_at, counters_of, state_of}
use Rattle.vs_run_steps.specs.Stepping.{IsValidWait}
use Rattle.vs_run_steps.proofs.RunsLemmas.{place_past, place_there}
use Rattle.vs_run_steps.proofs.TakingLemmas.{places_below, still_there, taken_lost, waits_for_nothing}
use Rattle.vs_run_steps.proofs.run.RunState.run_process.Goals as goal

pub returns-in_default-clause-some : goal.returns-in_default-clause-some
returns-in_default-clause-some g c = λ going. absurd (false≢true (sym (ap (λ (o : Option Place). if_some is_going o) (place_past (counters_of c.args.self.now) c.args.self.now.watched.events.processes c.args.number c.in_default.ensures)) ∙ going))

pub returns-in_default-clause-stopped : goal.returns-in_default-clause-stopped
returns-in_default-clause-stopped g c = λ fewer. (ap (λ (o : Option Place). if_some is_going o) (place_past (counters_of c.args.self.now) c.args.self.now.watched.events.processes c.args.number c.in_default.ensures))

pub returns-then-not-is_going-clause-some : goal.returns-then-not-is_going-clause-some
returns-then-not-is_going-clause-some g c = λ going. absurd (false≢true (sym (ap (λ (o : Option Place). if_some is_going o) (place_there (counters_of c.args.self.now) c.args.self.now.watched.events.processes c.args.number c.in-Some.process.now c.in-Some.ensures) ∙ sym (c.is_going.ensures (counters_at c.args.number c.args.self.now)) ∙ c.if-not-is_going.true) ∙ going))

pub returns-then-not-is_going-clause-stopped : goal.returns-then-not-is_going-clause-stopped
returns-then-not-is_going-clause-stopped g c = λ fewer. (ap (λ (o : Option Place). if_some is_going o) (place_there (counters_of c.args.self.now) c.args.self.now.watched.events.processes c.args.number c.in-Some.process.now c.in-Some.ensures) ∙ sym (c.is_going.ensures (counters_at c.args.number c.args.self.now)) ∙ c.if-not-is_going.true)

pub returns-in_default-wait : goal.returns-in_default-wait
returns-in_default-wait g c = absurd (waits_for_nothing c.in-Some.process.now.wait (todo_on c.in-Some.process.now.script.now [] c.in-Some.process.now.index) (sym (c.is_going.ensures []) ∙ c.if-not-is_going.false) c.in_default-wait.not-Nothing)

pub move_process-requires : goal.move_process-requires
move_process-requires g c κs within = (
  within,
  (
    c.in_ok-taken.ensures.keeps.agrees,
    (
      record { old = c.in-Some.process.now; at = (still_there g.plan.design g.plan.terms c.args.number c.in-Some.process.now c.in-Nothing.gait c.args.self.now c.take_steps.new.self c.in-Some.ensures c.in-Nothing.is c.in_ok-taken.ensures.keeps); active = (sym (c.is_going.ensures []) ∙ c.if-not-is_going.false); script = refl },
      subst (λ (t : ℕ). IsValidWait c.in-Some.process.now.script.now t c.in_ok-taken.taken.wait) (sym c.in_ok-taken.ensures.keeps.time) c.in_ok-taken.ensures.stands,
    ),
  ),
)

pub returns-in_err-move_process-clause-err : goal.returns-in_err-move_process-clause-err
returns-in_err-move_process-clause-err g c = on_err _
    (taken_lost c.args.limit c.in_ok-taken.taken.steps c.args.number (state_of c.args.self.now) (placed (state_of c.take_steps.new.self) c.args.number (place_by c.in_ok-taken.taken.wait (todo_on c.in-Some.process.now.script.now (counters_at c.args.number c.take_steps.new.self) c.in_ok-taken.taken.index))) (g.L.Sink.bytes c.args.lines.now) (g.L.Sink.bytes c.take_steps.new.lines) (c.in_ok-taken.ensures.some (sym (c.is_going.ensures []) ∙ c.if-not-is_going.false)) c.in_ok-taken.ensures.within c.in_ok-taken.ensures.taken)

pub returns-clause-run : goal.returns-clause-run
returns-clause-run g c = record {
  reached =
      subst (λ (s : State). IsReached g.plan.design s) (sym c.in_ok-move_process.ensures.state)
      (taken_reached g.plan.design c.in_ok-taken.taken.steps c.args.number (state_of c.args.self.now) (placed (state_of c.take_steps.new.self) c.args.number (place_by c.in_ok-taken.taken.wait (todo_on c.in-Some.process.now.script.now (counters_at c.args.number c.take_steps.new.self) c.in_ok-taken.taken.index))) c.in_ok-taken.ensures.taken.0 c.requires.1.1.0.reached c.in_ok-taken.ensures.taken.1);
  agrees = c.in_ok-move_process.ensures.agrees;
}

pub returns-clause-stopped : goal.returns-clause-stopped
returns-clause-stopped g c = λ fewer.
    ap (λ (s : State). if_some is_going (slice_get s.places c.args.number)) c.in_ok-move_process.ensures.state
    ∙ ap (λ (o : Option Place). if_some is_going o) (set_there (state_of c.take_steps.new.self).places c.args.number (place_by c.in_ok-taken.taken.wait (todo_on c.in-Some.process.now.script.now (counters_at c.args.number c.take_steps.new.self) c.in_ok-taken.taken.index)) (places_below c.args.number c.in-Some.process.now c.take_steps.new.self (still_there g.plan.design g.plan.terms c.args.number c.in-Some.process.now c.in-Nothing.gait c.args.self.now c.take_steps.new.self c.in-Some.ensures c.in-Nothing.is c.in_ok-taken.ensures.keeps)))
    ∙ c.in_ok-taken.ensures.stopped fewer
