use Rattle.std.proofs.Common.{◌++◌, ◌∷◌, [], refl, sym, arith}
use Rattle.vs_run_active.specs.vs_process.specs.declared.moves.Move.TheVariants.{EndSlot}
use Rattle.vs_run_active.specs.vs_process.proofs.Results.{on_err}
use Rattle.vs_vcd_writing.specs.Progress.{vcd_slot}
use Rattle.vs_run_steps.specs.Runs.{marks_of, state_of}
use Rattle.vs_run_steps.proofs.WritingLemmas.{ended_here, slot_failed}
use Rattle.vs_kernel.proofs.MarkingLemmas.{kept_slot, noted_clear, room_on}
use Rattle.vs_kernel.proofs.RunLemmas.{marks_run}
use Rattle.vs_kernel.proofs.slot.write_slot.Goals as goal

pub returns-in_err-slot-clause-part : goal.returns-in_err-slot-clause-part
returns-in_err-slot-clause-part g c =
    on_err _
    (slot_failed _ c.args.recorder.now (g.V.Sink.bytes c.args.vcd.now) (g.V.Sink.bytes c.slot.new.sink) (state_of c.args.running.now) EndSlot c.time-time.result c.args.running.now.watched.store refl
    c.time-time.ensures refl c.in_err-slot.ensures.bytes c.in_err-slot.ensures.pieces)

pub returns-clause-run : goal.returns-clause-run
returns-clause-run g c = λ d h. marks_run d c.args.running.now c.clear.new.marks h

pub returns-clause-recorded : goal.returns-clause-recorded
returns-clause-recorded g c = record {
  recording = λ d h. record {
    slots = h.slots ++ ended_here (state_of c.args.running.now) ∷ [];
    kept =
        kept_slot d h.slots (h.slots ++ ended_here (state_of c.args.running.now) ∷ []) c.args.recorder.now c.slot.new.self (g.V.Sink.bytes c.args.vcd.now) (g.V.Sink.bytes c.slot.new.sink) h.kept
        c.in_ok-slot.ensures.writes
        (λ noted. c.in_ok-slot.ensures.written d h.slots (ended_here (state_of c.args.running.now)) noted (record { time = sym c.time-time.ensures; values = refl }));
    covers = noted_clear c.clear.new.marks.items c.slot.new.self (state_of c.args.running.now).store c.in_ok-slot.ensures.covered;
    room = room_on d (marks_of c.args.running.now) c.clear.new.marks.items c.args.recorder.now c.slot.new.self h.room c.clear.ensures.len c.in_ok-slot.ensures.writes;
    few = omega (arith, h.few, c.clear.ensures.len);
  };
  written = λ d before h. c.in_ok-slot.ensures.written d before (ended_here (state_of c.args.running.now)) h (record { time = sym c.time-time.ensures; values = refl });
  bytes = λ d before h. (
    vcd_slot d before (ended_here (state_of c.args.running.now)),
    c.in_ok-slot.ensures.pieces d before (ended_here (state_of c.args.running.now)),
    c.in_ok-slot.ensures.bytes d before (ended_here (state_of c.args.running.now)) h (record { time = sym c.time-time.ensures; values = refl }),
  );
}
