use Rattle.std.proofs.Common.{◌≡◌, ℕ, Bool, List, refl, sym, subst, arith}
use Rattle.vs_run_regions.specs.vs_process.specs.declared.moves.Move.TheVariants.{Evaluate, Propagate}
use Rattle.vs_run_regions.specs.vs_process.specs.Executions.{move_lines}
use Rattle.vs_run_regions.specs.vs_process.proofs.Results.{on_err}
use Rattle.vs_vcd_writing.specs.Sinks.{AppendsPart}
use Rattle.vs_run_steps.specs.Runs.{state_of}
use Rattle.vs_run_steps.proofs.RunsLemmas.{plan_in, plan_out}
use Rattle.vs_run_steps.specs.Prints.{lines_text}
use Rattle.vs_run_steps.specs.Taken.{TakenPart}
use Rattle.vs_run_steps.specs.Turns.{EventTurnedPart}
use Rattle.vs_run_steps.proofs.EventLemmas.{event_stuck}
use Rattle.vs_run_steps.proofs.MadeLemmas.{event_made, made_one}
use Rattle.vs_run_steps.proofs.TakenLemmas.{event_part, event_taken}
use Rattle.vs_kernel.specs.Running.{IsActive, IsMade, IsSingle, move_of}
use Rattle.vs_run_regions.specs.declared.event.Event.{Event}
use Rattle.vs_run_regions.specs.declared.event.Event.TheVariants as e
use Rattle.vs_kernel.proofs.RunLemmas.{one_taken, own_run, prints_part, run_of_own, silent_made, step_part, step_printed}
use Rattle.vs_kernel.proofs.moves.run_event.Goals as goal

pub run_process-requires : goal.run_process-requires
run_process-requires g c κs within = (within.0, (within.1, (plan_in c.args.forms.now c.args.run.now c.requires.run, (c.requires.early, c.requires.limit))))

pub evaluate-requires-clause-active : goal.evaluate-requires-clause-active
evaluate-requires-clause-active g c = (subst (IsActive c.args.run.now) c.in-Evaluate.is c.requires.active).1

pub propagate-requires-clause-active : goal.propagate-requires-clause-active
propagate-requires-clause-active g c = (subst (IsActive c.args.run.now) c.in-Propagate.is c.requires.active).1

pub run_group-requires-clause-active : goal.run_group-requires-clause-active
run_group-requires-clause-active g c = (subst (IsActive c.args.run.now) c.in-Group.is c.requires.active).1

pub make_update-requires-clause-run : goal.make_update-requires-clause-run
make_update-requires-clause-run g c = own_run c.args.forms.now c.args.run.now c.requires.run

pub make_update-requires-clause-active : goal.make_update-requires-clause-active
make_update-requires-clause-active g c = subst (IsActive c.args.run.now) c.in-Make.is c.requires.active

pub returns-in_ok-taken-in-Step-clause-run : goal.returns-in_ok-taken-in-Step-clause-run
returns-in_ok-taken-in-Step-clause-run g c = plan_out c.args.forms.now c.args.run.now c.run_process.new.self c.requires.run c.in_ok-taken-in-Step.ensures.run

pub returns-in_ok-taken-in-Step-clause-some : goal.returns-in_ok-taken-in-Step-clause-some
returns-in_ok-taken-in-Step-clause-some g c = c.in_ok-taken-in-Step.ensures.some (subst (IsActive c.args.run.now) c.in-Step.is c.requires.active).1

pub returns-in_ok-taken-in-Step-clause-ok : goal.returns-in_ok-taken-in-Step-clause-ok
returns-in_ok-taken-in-Step-clause-ok g c = λ blocks.
    event_taken blocks c.args.limit c.in_ok-taken-in-Step.taken c.in-Step.process (state_of c.args.run.now) (state_of c.run_process.new.self) (g.L.Sink.bytes c.args.lines.now)
    (g.L.Sink.bytes c.run_process.new.lines) c.requires.going (c.in_ok-taken-in-Step.ensures.some (subst (IsActive c.args.run.now) c.in-Step.is c.requires.active).1)
    (record {
      within = c.in_ok-taken-in-Step.ensures.within;
      text = c.in_ok-taken-in-Step.ensures.ok.0;
      all = c.in_ok-taken-in-Step.ensures.ok.1;
      printed = c.in_ok-taken-in-Step.ensures.ok.2;
      stopped = c.in_ok-taken-in-Step.ensures.stopped;
    })

pub returns-in_err-taken-in-Step-clause-err : goal.returns-in_err-taken-in-Step-clause-err
returns-in_err-taken-in-Step-clause-err g c =
    let part : (blocks : List Bool) → EventTurnedPart c.args.limit blocks (state_of c.args.run.now) (g.L.Sink.bytes c.args.lines.now) (g.L.Sink.bytes c.run_process.new.lines) =
    λ blocks.
    event_part blocks c.args.limit c.in-Step.process (state_of c.args.run.now) (g.L.Sink.bytes c.args.lines.now) (g.L.Sink.bytes c.run_process.new.lines) c.requires.going
    c.in_err-taken-in-Step.ensures.err
    in
    on_err _ part

pub returns-in_ok-made-in-Evaluate-clause-ok : goal.returns-in_ok-made-in-Evaluate-clause-ok
returns-in_ok-made-in-Evaluate-clause-ok g c = λ blocks.
    event_made blocks c.args.limit c.in_ok-made-in-Evaluate.made (state_of c.args.run.now) (state_of c.evaluate.new.run) (g.L.Sink.bytes c.args.lines.now) c.requires.going
    c.in_ok-made-in-Evaluate.ensures.within c.in_ok-made-in-Evaluate.ensures.made

pub returns-in_ok-made-in-Group-clause-ok : goal.returns-in_ok-made-in-Group-clause-ok
returns-in_ok-made-in-Group-clause-ok g c = λ blocks.
    event_made blocks c.args.limit c.in_ok-made-in-Group.made (state_of c.args.run.now) (state_of c.run_group.new.run) (g.L.Sink.bytes c.args.lines.now) c.requires.going
    c.in_ok-made-in-Group.ensures.done.within c.in_ok-made-in-Group.ensures.done.made

pub returns-in_ok-propagate-in-Propagate-clause-ok : goal.returns-in_ok-propagate-in-Propagate-clause-ok
returns-in_ok-propagate-in-Propagate-clause-ok g c = λ blocks.
    event_made blocks c.args.limit 1 (state_of c.args.run.now) (state_of c.propagate.new.run) (g.L.Sink.bytes c.args.lines.now) c.requires.going (omega (arith, c.requires.limit))
    c.in_ok-propagate-in-Propagate.ensures.made

pub returns-in_ok-make_update-in-Make-clause-run : goal.returns-in_ok-make_update-in-Make-clause-run
returns-in_ok-make_update-in-Make-clause-run g c = run_of_own c.args.forms.now c.args.run.now c.make_update.new.run c.requires.run c.in_ok-make_update-in-Make.ensures.run

pub returns-in_ok-make_update-in-Make-clause-ok : goal.returns-in_ok-make_update-in-Make-clause-ok
returns-in_ok-make_update-in-Make-clause-ok g c = λ blocks.
    event_made blocks c.args.limit 1 (state_of c.args.run.now) (state_of c.make_update.new.run) (g.L.Sink.bytes c.args.lines.now) c.requires.going (omega (arith, c.requires.limit))
    (made_one (state_of c.args.run.now) (state_of c.make_update.new.run) (move_of c.args.run.now (e.Make c.in-Make.number)) refl (subst (IsActive c.args.run.now) c.in-Make.is c.requires.active).1
    c.in_ok-make_update-in-Make.ensures.made)

pub returns-in_err-made-in-Evaluate-clause-err : goal.returns-in_err-made-in-Evaluate-clause-err
returns-in_err-made-in-Evaluate-clause-err g c =
    let part : (blocks : List Bool) → EventTurnedPart c.args.limit blocks (state_of c.args.run.now) (g.L.Sink.bytes c.args.lines.now) (g.L.Sink.bytes c.args.lines.now) =
    λ blocks. event_stuck c.args.forms.now blocks c.args.limit (state_of c.args.run.now) (g.L.Sink.bytes c.args.lines.now) c.requires.limit c.requires.going
    in
    on_err _ part

pub returns-in_err-propagate-in-Propagate-clause-err : goal.returns-in_err-propagate-in-Propagate-clause-err
returns-in_err-propagate-in-Propagate-clause-err g c =
    let part : (blocks : List Bool) → EventTurnedPart c.args.limit blocks (state_of c.args.run.now) (g.L.Sink.bytes c.args.lines.now) (g.L.Sink.bytes c.args.lines.now) =
    λ blocks. event_stuck c.args.forms.now blocks c.args.limit (state_of c.args.run.now) (g.L.Sink.bytes c.args.lines.now) c.requires.limit c.requires.going
    in
    on_err _ part

pub returns-in_err-made-in-Group-clause-err : goal.returns-in_err-made-in-Group-clause-err
returns-in_err-made-in-Group-clause-err g c =
    let part : (blocks : List Bool) → EventTurnedPart c.args.limit blocks (state_of c.args.run.now) (g.L.Sink.bytes c.args.lines.now) (g.L.Sink.bytes c.args.lines.now) =
    λ blocks. event_stuck c.args.forms.now blocks c.args.limit (state_of c.args.run.now) (g.L.Sink.bytes c.args.lines.now) c.requires.limit c.requires.going
    in
    on_err _ part

pub make_updates-requires-clause-run : goal.make_updates-requires-clause-run
make_updates-requires-clause-run g c = own_run c.args.forms.now c.args.run.now c.requires.run

pub make_updates-requires-clause-active : goal.make_updates-requires-clause-active
make_updates-requires-clause-active g c = subst (IsActive c.args.run.now) c.in-Updates.is c.requires.active

pub returns-in_ok-made-in-Updates-clause-run : goal.returns-in_ok-made-in-Updates-clause-run
returns-in_ok-made-in-Updates-clause-run g c = run_of_own c.args.forms.now c.args.run.now c.make_updates.new.run c.requires.run c.in_ok-made-in-Updates.ensures.done.run

pub returns-in_ok-made-in-Updates-clause-ok : goal.returns-in_ok-made-in-Updates-clause-ok
returns-in_ok-made-in-Updates-clause-ok g c = λ blocks.
    event_made blocks c.args.limit c.in_ok-made-in-Updates.made (state_of c.args.run.now) (state_of c.make_updates.new.run) (g.L.Sink.bytes c.args.lines.now) c.requires.going
    c.in_ok-made-in-Updates.ensures.done.within c.in_ok-made-in-Updates.ensures.done.made

pub returns-in_err-made-in-Updates-clause-err : goal.returns-in_err-made-in-Updates-clause-err
returns-in_err-made-in-Updates-clause-err g c =
    let part : (blocks : List Bool) → EventTurnedPart c.args.limit blocks (state_of c.args.run.now) (g.L.Sink.bytes c.args.lines.now) (g.L.Sink.bytes c.args.lines.now) =
    λ blocks. event_stuck c.args.forms.now blocks c.args.limit (state_of c.args.run.now) (g.L.Sink.bytes c.args.lines.now) c.requires.limit c.requires.going
    in
    on_err _ part

pub returns-in_err-make_update-in-Make-clause-err : goal.returns-in_err-make_update-in-Make-clause-err
returns-in_err-make_update-in-Make-clause-err g c =
    let part : (blocks : List Bool) → EventTurnedPart c.args.limit blocks (state_of c.args.run.now) (g.L.Sink.bytes c.args.lines.now) (g.L.Sink.bytes c.args.lines.now) =
    λ blocks. event_stuck c.args.forms.now blocks c.args.limit (state_of c.args.run.now) (g.L.Sink.bytes c.args.lines.now) c.requires.limit c.requires.going
    in
    on_err _ part

pub returns-in_ok-taken-in-Step-clause-one : goal.returns-in_ok-taken-in-Step-clause-one
returns-in_ok-taken-in-Step-clause-one g c = λ one single.
    let h = c.in_ok-taken-in-Step.ensures.ok in
    let i = c.in-Step.process in
    let taken = one_taken c.in_ok-taken-in-Step.taken i (state_of c.args.run.now) (state_of c.run_process.new.self) h.0 one h.1 in
    subst (λ (x : Event). IsMade (move_of c.args.run.now x) (state_of c.args.run.now) (state_of c.run_process.new.self) (g.L.Sink.bytes c.args.lines.now) (g.L.Sink.bytes c.run_process.new.lines)) (sym c.in-Step.is)
    (record { made = taken.0; printed = step_printed i (state_of c.args.run.now) (g.L.Sink.bytes c.args.lines.now) (g.L.Sink.bytes c.run_process.new.lines) h.0 taken.1 h.2 })

pub returns-in_err-taken-in-Step-clause-part : goal.returns-in_err-taken-in-Step-clause-part
returns-in_err-taken-in-Step-clause-part g c =
    let part : c.args.limit ≡ 1 → AppendsPart (g.L.Sink.bytes c.args.lines.now) (g.L.Sink.bytes c.run_process.new.lines) (lines_text (move_lines (move_of c.args.run.now c.args.event) (state_of c.args.run.now))) =
    λ one.
    subst (λ (x : Event). AppendsPart (g.L.Sink.bytes c.args.lines.now) (g.L.Sink.bytes c.run_process.new.lines) (lines_text (move_lines (move_of c.args.run.now x) (state_of c.args.run.now)))) (sym c.in-Step.is)
    (step_part c.in-Step.process (state_of c.args.run.now) (g.L.Sink.bytes c.args.lines.now) (g.L.Sink.bytes c.run_process.new.lines)
    (subst (λ (n : ℕ). TakenPart n c.in-Step.process (state_of c.args.run.now) (g.L.Sink.bytes c.args.lines.now) (g.L.Sink.bytes c.run_process.new.lines)) one c.in_err-taken-in-Step.ensures.err))
    in
    on_err _ part

pub returns-in_ok-made-in-Evaluate-clause-one : goal.returns-in_ok-made-in-Evaluate-clause-one
returns-in_ok-made-in-Evaluate-clause-one g c = λ one single.
    subst (λ (x : Event). IsMade (move_of c.args.run.now x) (state_of c.args.run.now) (state_of c.evaluate.new.run) (g.L.Sink.bytes c.args.lines.now) (g.L.Sink.bytes c.args.lines.now)) (sym c.in-Evaluate.is)
    (silent_made (state_of c.args.run.now) (state_of c.evaluate.new.run) (Evaluate c.in-Evaluate.assign) (g.L.Sink.bytes c.args.lines.now) refl (c.in_ok-made-in-Evaluate.ensures.one one))

pub returns-in_ok-propagate-in-Propagate-clause-one : goal.returns-in_ok-propagate-in-Propagate-clause-one
returns-in_ok-propagate-in-Propagate-clause-one g c = λ one single.
    subst (λ (x : Event). IsMade (move_of c.args.run.now x) (state_of c.args.run.now) (state_of c.propagate.new.run) (g.L.Sink.bytes c.args.lines.now) (g.L.Sink.bytes c.args.lines.now)) (sym c.in-Propagate.is)
    (silent_made (state_of c.args.run.now) (state_of c.propagate.new.run) (Propagate c.in-Propagate.assign) (g.L.Sink.bytes c.args.lines.now) refl c.in_ok-propagate-in-Propagate.ensures.state)

pub returns-in_ok-make_update-in-Make-clause-one : goal.returns-in_ok-make_update-in-Make-clause-one
returns-in_ok-make_update-in-Make-clause-one g c = λ one single.
    subst (λ (x : Event). IsMade (move_of c.args.run.now x) (state_of c.args.run.now) (state_of c.make_update.new.run) (g.L.Sink.bytes c.args.lines.now) (g.L.Sink.bytes c.args.lines.now)) (sym c.in-Make.is)
    (silent_made (state_of c.args.run.now) (state_of c.make_update.new.run) (move_of c.args.run.now (e.Make c.in-Make.number)) (g.L.Sink.bytes c.args.lines.now) refl c.in_ok-make_update-in-Make.ensures.made)

pub returns-in_ok-made-in-Group-clause-one : goal.returns-in_ok-made-in-Group-clause-one
returns-in_ok-made-in-Group-clause-one g c = λ one single. absurd (subst IsSingle c.in-Group.is single)

pub returns-in_ok-made-in-Updates-clause-one : goal.returns-in_ok-made-in-Updates-clause-one
returns-in_ok-made-in-Updates-clause-one g c = λ one single. absurd (subst IsSingle c.in-Updates.is single)

pub returns-in_err-made-in-Evaluate-clause-part : goal.returns-in_err-made-in-Evaluate-clause-part
returns-in_err-made-in-Evaluate-clause-part g c =
    let part : c.args.limit ≡ 1 → AppendsPart (g.L.Sink.bytes c.args.lines.now) (g.L.Sink.bytes c.args.lines.now) (lines_text (move_lines (move_of c.args.run.now c.args.event) (state_of c.args.run.now))) =
    λ one. prints_part (state_of c.args.run.now) (move_of c.args.run.now c.args.event) (g.L.Sink.bytes c.args.lines.now)
    in
    on_err _ part

pub returns-in_err-propagate-in-Propagate-clause-part : goal.returns-in_err-propagate-in-Propagate-clause-part
returns-in_err-propagate-in-Propagate-clause-part g c =
    let part : c.args.limit ≡ 1 → AppendsPart (g.L.Sink.bytes c.args.lines.now) (g.L.Sink.bytes c.args.lines.now) (lines_text (move_lines (move_of c.args.run.now c.args.event) (state_of c.args.run.now))) =
    λ one. prints_part (state_of c.args.run.now) (move_of c.args.run.now c.args.event) (g.L.Sink.bytes c.args.lines.now)
    in
    on_err _ part

pub returns-in_err-made-in-Group-clause-part : goal.returns-in_err-made-in-Group-clause-part
returns-in_err-made-in-Group-clause-part g c =
    let part : c.args.limit ≡ 1 → AppendsPart (g.L.Sink.bytes c.args.lines.now) (g.L.Sink.bytes c.args.lines.now) (lines_text (move_lines (move_of c.args.run.now c.args.event) (state_of c.args.run.now))) =
    λ one. prints_part (state_of c.args.run.now) (move_of c.args.run.now c.args.event) (g.L.Sink.bytes c.args.lines.now)
    in
    on_err _ part

pub returns-in_err-make_update-in-Make-clause-part : goal.returns-in_err-make_update-in-Make-clause-part
returns-in_err-make_update-in-Make-clause-part g c =
    let part : c.args.limit ≡ 1 → AppendsPart (g.L.Sink.bytes c.args.lines.now) (g.L.Sink.bytes c.args.lines.now) (lines_text (move_lines (move_of c.args.run.now c.args.event) (state_of c.args.run.now))) =
    λ one. prints_part (state_of c.args.run.now) (move_of c.args.run.now c.args.event) (g.L.Sink.bytes c.args.lines.now)
    in
    on_err _ part

pub returns-in_err-made-in-Updates-clause-part : goal.returns-in_err-made-in-Updates-clause-part
returns-in_err-made-in-Updates-clause-part g c =
    let part : c.args.limit ≡ 1 → AppendsPart (g.L.Sink.bytes c.args.lines.now) (g.L.Sink.bytes c.args.lines.now) (lines_text (move_lines (move_of c.args.run.now c.args.event) (state_of c.args.run.now))) =
    λ one. prints_part (state_of c.args.run.now) (move_of c.args.run.now c.args.event) (g.L.Sink.bytes c.args.lines.now)
    in
    on_err _ part
