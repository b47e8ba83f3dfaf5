use Rattle.std.proofs.Common.{◌≡◌, ◌∙◌, None, List, true, sym, ap, subst}
use Rattle.vs_design.specs.Parts.{Parts}
use Rattle.vs_design.specs.Traces.{Slot}
use Rattle.vs_run_active.specs.vs_process.specs.declared.moves.Move.TheVariants.{EndSlot}
use Rattle.vs_run_active.specs.vs_process.specs.Executions.{apply, ended_slot, is_enabled}
use Rattle.vs_run_active.specs.vs_process.proofs.Results.{on_err}
use Rattle.vs_run_active.specs.vs_process.specs.States.{State}
use Rattle.vs_run_steps.specs.Runs.{running_of, state_of}
use Rattle.vs_kernel.specs.Snapshot.{IsSnapshot, Snapshot, point_of}
use Rattle.vs_run_steps.specs.Points.{point}
use Rattle.vs_run_steps.specs.Recording.{HasNoted}
use Rattle.vs_run_steps.specs.Slots.{AppendsSlotsPart}
use Rattle.vs_run_steps.specs.Turns.{Turned, TurnedPart}
use Rattle.vs_run_steps.proofs.Appending.{part_all}
use Rattle.vs_run_steps.proofs.WritingLemmas.{slots_whole}
use Rattle.vs_kernel.proofs.MarkingLemmas.{kept_on}
use Rattle.vs_kernel.proofs.RegionLemmas.{ended_part, ended_turned}
use Rattle.vs_kernel.proofs.RunLemmas.{marks_still, own_run, run_of_own}
use Rattle.vs_kernel.proofs.SnapshotLemmas.{none_goes}
use Rattle.vs_kernel.proofs.run.Run.end_slot.Goals as goal

pub returns-in_err-note-clause-err : goal.returns-in_err-note-clause-err
returns-in_err-note-clause-err g c =
    let enabled : is_enabled (state_of c.self.inside.running) EndSlot ≡ true = ap (λ (x : Snapshot). is_enabled (state_of x.running) EndSlot) c.self.view_is ∙ c.requires.enabled in
    on_err _
    (subst (λ (x : Snapshot). TurnedPart (point_of x None (g.V.Sink.bytes c.args.vcd.now) (g.L.Sink.bytes c.args.lines.now)) (g.V.Sink.bytes c.note.new.vcd) (g.L.Sink.bytes c.note.new.lines)) c.self.view_is
    (ended_part (state_of c.self.inside.running) c.self.inside.recorder (g.V.Sink.bytes c.args.vcd.now) (g.V.Sink.bytes c.note.new.vcd) (g.L.Sink.bytes c.args.lines.now) (g.L.Sink.bytes c.note.new.lines) enabled
    c.in_err-note.ensures.part c.in_err-note.ensures.lines_part))

pub returns-in_err-leave-clause-err : goal.returns-in_err-leave-clause-err
returns-in_err-leave-clause-err g c =
    let enabled : is_enabled (state_of c.self.inside.running) EndSlot ≡ true = ap (λ (x : Snapshot). is_enabled (state_of x.running) EndSlot) c.self.view_is ∙ c.requires.enabled in
    let whole : (d : Parts) (before : List Slot) → HasNoted c.self.inside.recorder (g.V.Sink.bytes c.args.vcd.now) d before →
    AppendsSlotsPart (g.V.Sink.bytes c.args.vcd.now) (g.V.Sink.bytes c.note.new.vcd) d before (ended_slot EndSlot (state_of c.self.inside.running)) =
    λ d before h. slots_whole _ _ d before _ (c.in_ok-note.ensures.recorded.bytes d before h)
    in
    on_err _
    (subst (λ (x : Snapshot). TurnedPart (point_of x None (g.V.Sink.bytes c.args.vcd.now) (g.L.Sink.bytes c.args.lines.now)) (g.V.Sink.bytes c.note.new.vcd) (g.L.Sink.bytes c.note.new.lines)) c.self.view_is
    (ended_part (state_of c.self.inside.running) c.self.inside.recorder (g.V.Sink.bytes c.args.vcd.now) (g.V.Sink.bytes c.note.new.vcd) (g.L.Sink.bytes c.args.lines.now) (g.L.Sink.bytes c.note.new.lines) enabled
    whole (part_all _ _ _ c.in_ok-note.ensures.lines)))

pub returns-clause-ok : goal.returns-clause-ok
returns-clause-ok g c =
    let enabled : is_enabled (state_of c.self.inside.running) EndSlot ≡ true = ap (λ (x : Snapshot). is_enabled (state_of x.running) EndSlot) c.self.view_is ∙ c.requires.enabled in
    let made : state_of c.leave.new.run ≡ apply EndSlot (state_of c.self.inside.running) = c.in_ok-leave.ensures.made ∙ ap (apply EndSlot) c.note.ensures.state in
    subst
    (λ (x : Snapshot). Turned x.blocks (point_of x None (g.V.Sink.bytes c.args.vcd.now) (g.L.Sink.bytes c.args.lines.now))
    (point None (state_of c.leave.new.run) c.note.new.recorder (g.V.Sink.bytes c.note.new.vcd) (g.L.Sink.bytes c.note.new.lines))) c.self.view_is
    (ended_turned c.self.inside.blocks.items (state_of c.self.inside.running) (state_of c.leave.new.run) c.self.inside.recorder c.note.new.recorder (g.V.Sink.bytes c.args.vcd.now) (g.V.Sink.bytes c.note.new.vcd)
    (g.L.Sink.bytes c.args.lines.now) (g.L.Sink.bytes c.note.new.lines) enabled made c.in_ok-note.ensures.recorded.written c.in_ok-note.ensures.recorded.bytes c.in_ok-note.ensures.lines)

pub returns-clause-run : goal.returns-clause-run
returns-clause-run g c =
    let here = subst IsSnapshot (sym c.self.view_is) c.requires.run in
    record {
      run = run_of_own c.self.inside.forms c.note.new.running c.leave.new.run (c.note.ensures.run c.self.inside.forms here.run) c.in_ok-leave.ensures.run;
      recording = kept_on c.self.inside.forms (running_of c.note.new.running) (running_of c.leave.new.run) c.note.new.recorder (c.in_ok-note.ensures.recorded.recording c.self.inside.forms here.recording)
          (marks_still c.note.new.running c.leave.new.run c.in_ok-leave.ensures.marks (ap (λ (s : State). s.store) c.in_ok-leave.ensures.made));
      goes_on = λ i is. absurd (none_goes c.self.inside.inside (ap (λ (x : Snapshot). x.inside) c.self.view_is ∙ c.requires.none) i is);
      first = here.first;
    }

pub leave-requires-clause-run : goal.leave-requires-clause-run
leave-requires-clause-run g c =
    let here = subst IsSnapshot (sym c.self.view_is) c.requires.run in
    own_run c.self.inside.forms c.note.new.running (c.note.ensures.run c.self.inside.forms here.run)

pub leave-requires-clause-going : goal.leave-requires-clause-going
leave-requires-clause-going g c =
    ap (λ (s : State). s.over) c.note.ensures.state ∙ ap (λ (x : Snapshot). (state_of x.running).over) c.self.view_is ∙ c.requires.going

pub leave-requires-clause-enabled : goal.leave-requires-clause-enabled
leave-requires-clause-enabled g c =
    ap (λ (s : State). is_enabled s EndSlot) c.note.ensures.state ∙ ap (λ (x : Snapshot). is_enabled (state_of x.running) EndSlot) c.self.view_is ∙ c.requires.enabled
