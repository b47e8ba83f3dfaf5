use Rattle.std.proofs.Common.{subst}
use Rattle.vs_design.specs.Parts.{Parts}
use Rattle.vs_run_active.specs.vs_process.specs.Spots.{IsSpotIn}
use Rattle.vs_run_steps.specs.Runs.{state_of}
use Rattle.vs_run_steps.specs.Evaluations.{HasDigits}
use Rattle.vs_run_steps.specs.Forms.{IsPlaceOf}
use Rattle.vs_run_steps.proofs.FormsLemmas.{digits_wide, driven_by}
use Rattle.vs_run_steps.proofs.evaluation.drive.Goals as goal

pub write-requires : goal.write-requires
write-requires g c κs within =
    let has : HasDigits c.args.forms.now c.args.assign c.args.digits = c.requires.1.1.1 in
    let place : IsPlaceOf c.args.forms.now.signals has.assign.target c.in-Some.spot.now = c.in-Some.ensures has.assign has.at in (
      within,
      (
        c.requires.1.0,
        (
          subst (λ (d : Parts). IsSpotIn d.signals c.in-Some.spot.now) c.requires.1.1.0 place.spot_of.inside,
          digits_wide c.args.forms.now c.args.assign c.in-Some.spot.now c.args.digits has place,
        ),
      ),
    )

pub returns-clause-driven : goal.returns-clause-driven
returns-clause-driven g c =
    driven_by c.args.forms.now c.args.assign (state_of c.args.run.now) (state_of c.write.new.self) c.in-Some.spot.now c.args.digits c.requires.1.1.1 c.in-Some.ensures c.in_ok-write.ensures.state
