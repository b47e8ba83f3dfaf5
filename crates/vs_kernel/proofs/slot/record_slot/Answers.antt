use Rattle.std.proofs.Common.{◌∙◌, ◌++◌, sym}
use Rattle.vs_run_active.specs.vs_process.specs.declared.moves.Move.TheVariants.{EndSlot}
use Rattle.vs_run_active.specs.vs_process.specs.Executions.{ended_slot}
use Rattle.vs_run_steps.specs.Runs.{state_of}
use Rattle.vs_kernel.proofs.MarkingLemmas.{unnoted, unnoted_bytes}
use Rattle.vs_kernel.proofs.slot.record_slot.Goals as goal

pub returns-then-not-is_writing-clause-recorded : goal.returns-then-not-is_writing-clause-recorded
returns-then-not-is_writing-clause-recorded g c = record {
  recording = λ d h. h;
  written = λ d before h.
      unnoted c.args.recorder.now (g.V.Sink.bytes c.args.vcd.now) d before (before ++ ended_slot EndSlot (state_of c.args.running.now)) (sym c.is_writing.ensures ∙ c.if-not-is_writing.true) h;
  bytes = λ d before h.
      unnoted_bytes c.args.recorder.now (g.V.Sink.bytes c.args.vcd.now) d before (state_of c.args.running.now) (sym c.is_writing.ensures ∙ c.if-not-is_writing.true) h;
}
