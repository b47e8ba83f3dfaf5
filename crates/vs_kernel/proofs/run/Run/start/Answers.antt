use Rattle.std.proofs.Common.{◌≡◌, List, [], ℕ, length, refl, sym, ◌∙◌, ap, subst, arith}
use Rattle.vs_run_active.specs.vs_process.proofs.Results.{on_err}
use Rattle.vs_design.specs.Parts.{Parts}
use Rattle.vs_kernel.specs.Snapshot.{IsKept}
use Rattle.vs_run_steps.specs.Runs.{IsRunOf, marks_of, running_of, state_of}
use Rattle.vs_run_steps.specs.Recording.{HasRoom}
use Rattle.vs_run_steps.proofs.Appending.{part_all}
use Rattle.vs_kernel.proofs.MarkingLemmas.{kept_noted, noted_first}
use Rattle.vs_kernel.proofs.run.Run.start.Goals as goal

pub returns-in_err-marks-clause-part : goal.returns-in_err-marks-clause-part
returns-in_err-marks-clause-part g c = on_err _ (part_all _ _ _ c.in_ok-recorder.ensures.bytes)

pub returns-in_err-running-clause-part : goal.returns-in_err-running-clause-part
returns-in_err-running-clause-part g c = on_err _ (part_all _ _ _ c.in_ok-recorder.ensures.bytes)

pub returns-in_err-agenda-clause-part : goal.returns-in_err-agenda-clause-part
returns-in_err-agenda-clause-part g c = on_err _ (part_all _ _ _ c.in_ok-recorder.ensures.bytes)

pub returns-clause-run : goal.returns-clause-run
returns-clause-run g c =
    let new = c.agenda_of.new.running in
    let marks : marks_of new ≡ c.in_ok-marks.marks.items = c.agenda_of.ensures.marks ∙ c.in_ok-running.ensures.marks in
    record {
      run = subst (λ (d : Parts). IsRunOf d (running_of new)) (sym c.in_ok-forms.ensures) (c.agenda_of.ensures.run c.in_ok-running.ensures.run);
      recording =
          subst (λ (d : Parts). IsKept d (running_of new) c.in_ok-recorder.recorder) (sym c.in_ok-forms.ensures)
          (record {
            slots = [];
            kept = kept_noted _ _ c.args.design.now [] c.in_ok-recorder.ensures.written;
            covers = noted_first c.args.design.now _ _ (marks_of new) (state_of new).store c.in_ok-recorder.ensures.written;
            room = subst (λ (l : List ℕ). HasRoom c.args.design.now l c.in_ok-recorder.recorder) (sym marks) c.in_ok-marks.ensures.room;
            few = omega (arith, c.in_ok-marks.ensures.few, ap length marks);
          });
      goes_on = λ process is. cc;
      first = λ h. refl;
    }
