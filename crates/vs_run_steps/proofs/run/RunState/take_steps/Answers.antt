use Rattle.std.proofs.Common.{◌≡◌, ℕ, ◌<◌, suc, List, refl, sym, ◌∙◌, ap, subst, add-one, arith}
use Rattle.std.proofs.lemmas.Option.{slice_get_past}
use Rattle.vs_process.specs.declared.gait.Gait.{Gait}
use Rattle.vs_process.specs.Places.{active_at}
use Rattle.vs_process.specs.Scripts.{todo_on}
use Rattle.vs_process.proofs.SpotLemmas.{found_there}
use Rattle.vs_run_active.specs.vs_process.proofs.Results.{on_err}
use Rattle.vs_run_active.specs.ProcessPlaces.{place_by}
use Rattle.vs_run_active.specs.Taken.{placed}
use Rattle.vs_run_steps.specs.declared.step.Went.{Went}
use Rattle.vs_run_steps.specs.Runs.{counters_at, state_of}
use Rattle.vs_run_steps.specs.Stepping.{Acts, HaveTaken, IsStepping}
use Rattle.vs_run_steps.proofs.StepsLemmas.{known_by}
use Rattle.vs_run_steps.proofs.TakingLemmas.{counters_below, ended_stopped, keeps_more, rests_stand, rests_stopped, script_there, stands_so, stepping_all, stepping_ends, stepping_first, stepping_lost, stepping_on, stepping_part, stepping_rests, stepping_some, still_there}
use Rattle.vs_run_steps.proofs.run.RunState.take_steps.Goals as goal

pub loop-steps-init : goal.loop-steps-init
loop-steps-init g c = record { stepping = stepping_first g.plan.design g.plan.terms c.args.number c.args.process c.args.gait c.args.self.now (g.L.Sink.bytes c.args.lines.now) c.requires.1.1.0 c.requires.1.1.1.1.1.0 c.requires.1.1.1.1.1.1; failures = refl }

pub returns-in_default-clause-some : goal.returns-in_default-clause-some
returns-in_default-clause-some g c = λ active.
    stepping_some g.plan.design g.plan.terms c.args.number c.args.process c.args.gait c.args.self.now c.loop-steps.self (g.L.Sink.bytes c.args.lines.now) (g.L.Sink.bytes c.loop-steps.lines) c.loop-steps.steps c.loop-steps.index c.instructions-instructions.result.now (stands_so g.plan.design g.plan.terms c.args.number c.args.process c.args.gait c.args.self.now c.instructions-instructions.result.now c.requires.1.1.1.1.1.0 c.requires.1.1.1.1.1.1 c.instructions-instructions.ensures) (slice_get_past c.instructions-instructions.result.now c.loop-steps.index c.in_default.ensures.lookup.3) c.loop-steps.invariant.stepping active

pub returns-in_default-clause-stopped : goal.returns-in_default-clause-stopped
returns-in_default-clause-stopped g c = λ fewer.
    ended_stopped c.args.process.script.now c.instructions-instructions.result.now c.loop-steps.index c.gait_after.result (counters_at c.args.number c.loop-steps.self) c.instructions-instructions.ensures (slice_get_past c.instructions-instructions.result.now c.loop-steps.index c.in_default.ensures.lookup.3)

pub returns-in_default-clause-taken : goal.returns-in_default-clause-taken
returns-in_default-clause-taken g c =
    subst (λ (x : Gait). HaveTaken c.loop-steps.steps c.args.number (state_of c.args.self.now) (placed (state_of c.loop-steps.self) c.args.number (active_at x (todo_on c.args.process.script.now (counters_at c.args.number c.loop-steps.self) c.loop-steps.index))) (g.L.Sink.bytes c.args.lines.now) (g.L.Sink.bytes c.loop-steps.lines)) (sym c.gait_after.ensures)
    (stepping_ends g.plan.design g.plan.terms c.args.number c.args.process.script.now c.args.process.index c.args.gait c.args.self.now c.loop-steps.self (g.L.Sink.bytes c.args.lines.now) (g.L.Sink.bytes c.loop-steps.lines) c.loop-steps.steps c.loop-steps.index c.instructions-instructions.result.now c.instructions-instructions.ensures (slice_get_past c.instructions-instructions.result.now c.loop-steps.index c.in_default.ensures.lookup.3) c.loop-steps.invariant.stepping)

pub returns-in_err-print-clause-err : goal.returns-in_err-print-clause-err
returns-in_err-print-clause-err g c = on_err _
    (stepping_part g.plan.design g.plan.terms c.args.number c.args.process c.args.gait c.args.self.now c.loop-steps.self (g.L.Sink.bytes c.args.lines.now) (g.L.Sink.bytes c.loop-steps.lines) (g.L.Sink.bytes c.print.new.lines) c.args.limit c.loop-steps.steps c.loop-steps.index c.instructions-instructions.result.now c.in-Some.x.now (stands_so g.plan.design g.plan.terms c.args.number c.args.process c.args.gait c.args.self.now c.instructions-instructions.result.now c.requires.1.1.1.1.1.0 c.requires.1.1.1.1.1.1 c.instructions-instructions.ensures) (found_there c.instructions-instructions.result.now c.loop-steps.index c.in-Some.x.now c.in-Some.ensures.lookup.0 c.in-Some.ensures.lookup.1) c.loop-steps.invariant.stepping c.loop-steps-test.true c.in_err-print.ensures.err)

pub act-requires : goal.act-requires
act-requires g c κs within = (
  within,
  (
    c.loop-steps.invariant.stepping.keeps.agrees,
    (
      omega (arith, c.requires.1.1.1.0, c.loop-steps.invariant.stepping.keeps.time),
      (
        known_by g.plan.design.signals c.args.process.script.now c.loop-steps.index c.in-Some.x.now.next c.in-Some.x.now.action (c.instructions-instructions.ensures.does c.loop-steps.index c.in-Some.x.now (found_there c.instructions-instructions.result.now c.loop-steps.index c.in-Some.x.now c.in-Some.ensures.lookup.0 c.in-Some.ensures.lookup.1))
            (script_there g.plan.design g.plan.terms c.args.number c.args.process c.args.gait c.args.self.now c.loop-steps.self c.requires.1.1.1.1.1.0 c.requires.1.1.1.1.1.1 c.loop-steps.invariant.stepping.keeps).signals_are,
        counters_below g.plan.design g.plan.terms c.args.number c.args.process c.loop-steps.self c.loop-steps.invariant.stepping.keeps.agrees (still_there g.plan.design g.plan.terms c.args.number c.args.process c.args.gait c.args.self.now c.loop-steps.self c.requires.1.1.1.1.1.0 c.requires.1.1.1.1.1.1 c.loop-steps.invariant.stepping.keeps),
      ),
    ),
  ),
)

pub returns-in_err-next-clause-err : goal.returns-in_err-next-clause-err
returns-in_err-next-clause-err g c = on_err _
    (stepping_lost g.plan.design g.plan.terms c.args.number c.args.process c.args.gait c.args.self.now c.loop-steps.self (g.L.Sink.bytes c.args.lines.now) (g.L.Sink.bytes c.loop-steps.lines) (g.L.Sink.bytes c.print.new.lines) c.args.limit c.loop-steps.steps c.loop-steps.index c.instructions-instructions.result.now c.in-Some.x.now (stands_so g.plan.design g.plan.terms c.args.number c.args.process c.args.gait c.args.self.now c.instructions-instructions.result.now c.requires.1.1.1.1.1.0 c.requires.1.1.1.1.1.1 c.instructions-instructions.ensures) (found_there c.instructions-instructions.result.now c.loop-steps.index c.in-Some.x.now c.in-Some.ensures.lookup.0 c.in-Some.ensures.lookup.1) c.loop-steps.invariant.stepping c.loop-steps-test.true c.in_ok-print.ensures.ok)

pub returns-in-Rests-clause-stopped : goal.returns-in-Rests-clause-stopped
returns-in-Rests-clause-stopped g c = λ fewer.
    rests_stopped g.plan.design g.plan.terms c.args.number c.args.process c.args.gait c.args.self.now c.loop-steps.self c.act.new.self c.loop-steps.index c.in-Rests.next c.in-Rests.rest c.instructions-instructions.result.now c.in-Some.x.now (todo_on c.args.process.script.now (counters_at c.args.number c.act.new.self) c.in-Rests.next) (stands_so g.plan.design g.plan.terms c.args.number c.args.process c.args.gait c.args.self.now c.instructions-instructions.result.now c.requires.1.1.1.1.1.0 c.requires.1.1.1.1.1.1 c.instructions-instructions.ensures) (found_there c.instructions-instructions.result.now c.loop-steps.index c.in-Some.x.now c.in-Some.ensures.lookup.0 c.in-Some.ensures.lookup.1) c.loop-steps.invariant.stepping.keeps
    (subst (λ (x : Went). Acts c.args.number c.in-Some.x.now.action c.in-Some.x.now.next c.loop-steps.self c.act.new.self x) c.in-Rests.is c.in_ok-next.ensures.acts)

pub returns-in-Rests-clause-taken : goal.returns-in-Rests-clause-taken
returns-in-Rests-clause-taken g c =
    subst (λ (n : ℕ). HaveTaken n c.args.number (state_of c.args.self.now) (placed (state_of c.act.new.self) c.args.number (place_by c.in-Rests.rest (todo_on c.args.process.script.now (counters_at c.args.number c.act.new.self) c.in-Rests.next))) (g.L.Sink.bytes c.args.lines.now) (g.L.Sink.bytes c.print.new.lines)) (sym (add-one c.loop-steps.steps))
    (stepping_rests g.plan.design g.plan.terms c.args.number c.args.process c.args.gait c.args.self.now c.loop-steps.self c.act.new.self (g.L.Sink.bytes c.args.lines.now) (g.L.Sink.bytes c.loop-steps.lines) (g.L.Sink.bytes c.print.new.lines) c.loop-steps.steps c.loop-steps.index c.in-Rests.next c.in-Rests.rest c.instructions-instructions.result.now c.in-Some.x.now (stands_so g.plan.design g.plan.terms c.args.number c.args.process c.args.gait c.args.self.now c.instructions-instructions.result.now c.requires.1.1.1.1.1.0 c.requires.1.1.1.1.1.1 c.instructions-instructions.ensures) (found_there c.instructions-instructions.result.now c.loop-steps.index c.in-Some.x.now c.in-Some.ensures.lookup.0 c.in-Some.ensures.lookup.1) c.loop-steps.invariant.stepping c.in_ok-print.ensures.ok
    (subst (λ (x : Went). Acts c.args.number c.in-Some.x.now.action c.in-Some.x.now.next c.loop-steps.self c.act.new.self x) c.in-Rests.is c.in_ok-next.ensures.acts))

pub returns-in-Rests-clause-stands : goal.returns-in-Rests-clause-stands
returns-in-Rests-clause-stands g c =
    rests_stand g.plan.design g.plan.terms c.args.number c.args.process c.args.gait c.args.self.now c.loop-steps.self c.act.new.self c.loop-steps.index c.in-Rests.next c.in-Rests.rest c.instructions-instructions.result.now c.in-Some.x.now (stands_so g.plan.design g.plan.terms c.args.number c.args.process c.args.gait c.args.self.now c.instructions-instructions.result.now c.requires.1.1.1.1.1.0 c.requires.1.1.1.1.1.1 c.instructions-instructions.ensures) (found_there c.instructions-instructions.result.now c.loop-steps.index c.in-Some.x.now c.in-Some.ensures.lookup.0 c.in-Some.ensures.lookup.1) c.loop-steps.invariant.stepping.keeps
    (subst (λ (x : Went). Acts c.args.number c.in-Some.x.now.action c.in-Some.x.now.next c.loop-steps.self c.act.new.self x) c.in-Rests.is c.in_ok-next.ensures.acts)

pub returns-in-Rests-clause-keeps : goal.returns-in-Rests-clause-keeps
returns-in-Rests-clause-keeps g c = keeps_more g.plan.design g.plan.terms c.args.self.now c.loop-steps.self c.act.new.self c.loop-steps.invariant.stepping.keeps c.in_ok-next.ensures.keeps

pub loop-steps-preserved : goal.loop-steps-preserved
loop-steps-preserved g c = record {
  stepping =
      subst (λ (n : ℕ). IsStepping g.plan.design g.plan.terms c.args.number c.args.process.script.now c.args.process.index c.args.gait c.args.self.now (g.L.Sink.bytes c.args.lines.now) n c.in-On.next c.act.new.self (g.L.Sink.bytes c.print.new.lines)) (sym (add-one c.loop-steps.steps))
      (stepping_on g.plan.design g.plan.terms c.args.number c.args.process c.args.gait c.args.self.now c.loop-steps.self c.act.new.self (g.L.Sink.bytes c.args.lines.now) (g.L.Sink.bytes c.loop-steps.lines) (g.L.Sink.bytes c.print.new.lines) c.loop-steps.steps c.loop-steps.index c.in-On.next c.instructions-instructions.result.now c.in-Some.x.now (stands_so g.plan.design g.plan.terms c.args.number c.args.process c.args.gait c.args.self.now c.instructions-instructions.result.now c.requires.1.1.1.1.1.0 c.requires.1.1.1.1.1.1 c.instructions-instructions.ensures) (found_there c.instructions-instructions.result.now c.loop-steps.index c.in-Some.x.now c.in-Some.ensures.lookup.0 c.in-Some.ensures.lookup.1) c.loop-steps.invariant.stepping c.in_ok-print.ensures.ok
      (subst (λ (x : Went). Acts c.args.number c.in-Some.x.now.action c.in-Some.x.now.next c.loop-steps.self c.act.new.self x) c.in-On.is c.in_ok-next.ensures.acts) c.in_ok-next.ensures.keeps);
  failures = c.in_ok-print.ensures.failures ∙ c.loop-steps.invariant.failures;
}

pub returns-clause-taken : goal.returns-clause-taken
returns-clause-taken g c =
    let all : c.loop-steps.steps ≡ c.args.limit = omega (arith, c.loop-steps-test.false, c.loop-steps.auto.steps-end) in
    let some : 0 < c.loop-steps.steps = omega (arith, all, c.requires.1.1.1.1.0) in
    subst (λ (n : ℕ). HaveTaken n c.args.number (state_of c.args.self.now) (placed (state_of c.loop-steps.self) c.args.number (active_at c.gait_after.result (todo_on c.args.process.script.now (counters_at c.args.number c.loop-steps.self) c.loop-steps.index))) (g.L.Sink.bytes c.args.lines.now) (g.L.Sink.bytes c.loop-steps.lines)) all
    (subst (λ (x : Gait). HaveTaken c.loop-steps.steps c.args.number (state_of c.args.self.now) (placed (state_of c.loop-steps.self) c.args.number (active_at x (todo_on c.args.process.script.now (counters_at c.args.number c.loop-steps.self) c.loop-steps.index))) (g.L.Sink.bytes c.args.lines.now) (g.L.Sink.bytes c.loop-steps.lines)) (sym c.gait_after.ensures)
    (stepping_all g.plan.design g.plan.terms c.args.number c.args.process.script.now c.args.process.index c.args.gait c.args.self.now c.loop-steps.self (g.L.Sink.bytes c.args.lines.now) (g.L.Sink.bytes c.loop-steps.lines) c.loop-steps.steps c.loop-steps.index some c.loop-steps.invariant.stepping))
