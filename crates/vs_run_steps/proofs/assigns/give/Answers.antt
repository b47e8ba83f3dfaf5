use Rattle.std.proofs.Common.{true, refl, subst}
use Rattle.vs_design.specs.Parts.{Parts}
use Rattle.vs_run_active.specs.vs_process.specs.Spots.{IsSpotIn}
use Rattle.vs_run_active.specs.Left.{valued}
use Rattle.vs_run_steps.specs.Runs.{state_of}
use Rattle.std.proofs.Common.{None}
use Rattle.vs_run_steps.specs.Evaluations.{HasDigits}
use Rattle.vs_run_steps.proofs.FormsLemmas.{digits_wide, driven_by}
use Rattle.vs_run_steps.proofs.RunLemmas.{agrees_left, design_of, digits_there, run_made, run_some, state_some, with_assigns, written_once}
use Rattle.vs_run_steps.proofs.assigns.give.Goals as goal

pub write-requires : goal.write-requires
write-requires g c κs within =
    let has : HasDigits c.args.forms.now c.args.assign c.args.digits =
    digits_there c.args.forms.now (state_of c.args.run.now) c.args.assign c.args.digits true c.requires.run.1.reached c.requires.active c.requires.value
    in (
      within,
      (
        agrees_left c.args.forms.now c.args.run.now c.leave.new.self c.args.assign (valued None) (λ x. refl) c.requires.run c.leave.ensures,
        (
          subst (λ (d : Parts). IsSpotIn d.signals c.args.spot.now) (design_of c.args.forms.now c.args.run.now c.requires.run) (c.requires.place has.assign has.at).spot_of.inside,
          digits_wide c.args.forms.now c.args.assign c.args.spot.now c.args.digits has (c.requires.place has.assign has.at),
        ),
      ),
    )

made_two : goal.returns-then-at_once-clause-come
made_two g c = (
  c.if-at_once.true,
  written_once c.args.forms.now (state_of c.args.run.now) (state_of c.write.new.self) c.leave.new.self c.args.assign c.args.digits true c.requires.run.1.reached c.requires.active
      c.requires.value refl c.leave.ensures
      (driven_by c.args.forms.now c.args.assign (state_of (with_assigns c.args.run.now c.leave.new.self c.args.run.now.watched.events.queue)) (state_of c.write.new.self) c.args.spot.now c.args.digits
      (digits_there c.args.forms.now (state_of c.args.run.now) c.args.assign c.args.digits true c.requires.run.1.reached c.requires.active c.requires.value)
      (λ a at. c.requires.place a at) c.in_ok-write.ensures.state),
)

pub returns-then-at_once-clause-come : goal.returns-then-at_once-clause-come
returns-then-at_once-clause-come g c = made_two g c

pub returns-then-at_once-clause-run : goal.returns-then-at_once-clause-run
returns-then-at_once-clause-run g c =
    run_made c.args.forms.now 2 c.args.run.now c.write.new.self c.requires.run (made_two g c).1 c.in_ok-write.ensures.keeps.agrees

pub returns-clause-come : goal.returns-clause-come
returns-clause-come g c =
    state_some c.args.forms.now c.args.run.now c.leave-2.new.self c.args.run.now.watched.events.queue c.args.assign c.args.digits true c.requires.run c.requires.active c.requires.value refl c.leave-2.ensures

pub returns-clause-run : goal.returns-clause-run
returns-clause-run g c = run_some c.args.forms.now c.args.run.now c.leave-2.new.self c.args.assign c.args.digits true c.requires.run c.requires.active c.requires.value refl c.leave-2.ensures
