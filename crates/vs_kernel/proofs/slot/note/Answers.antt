use Rattle.std.proofs.Common.{◌≡◌, ℕ, List, map, refl, rules, subst}
use Rattle.std.specs.Io.KnownBytes.{Appends}
use Rattle.vs_design.specs.Parts.{Parts}
use Rattle.vs_design.specs.Traces.{Slot}
use Rattle.vs_run_active.specs.vs_process.specs.declared.moves.Move.TheVariants.{EndSlot}
use Rattle.vs_run_active.specs.vs_process.specs.Executions.{ended_slot, strobe_line, strobe_lines}
use Rattle.vs_run_active.specs.vs_process.specs.States.{Called, State}
use Rattle.vs_run_active.specs.vs_process.proofs.Results.{on_err}
use Rattle.vs_vcd_writing.specs.Progress.{is_write_fault}
use Rattle.vs_vcd_writing.specs.Sinks.{AppendsPart, failed_after}
use Rattle.vs_run_steps.specs.Runs.{state_of}
use Rattle.vs_run_steps.specs.Prints.{lines_text}
use Rattle.vs_run_steps.specs.Recording.{HasNoted}
use Rattle.vs_run_steps.specs.Slots.{AppendsSlotsPart}
use Rattle.vs_run_steps.proofs.Appending.{append_none}
use Rattle.vs_run_steps.proofs.WritingLemmas.{first_failed, second_failed, slots_whole}
use Rattle.vs_kernel.proofs.slot.note.Goals as goal

pub returns-in_err-record_slot-clause-lines_part : goal.returns-in_err-record_slot-clause-lines_part
returns-in_err-record_slot-clause-lines_part g c =
    let none : AppendsPart (g.L.Sink.bytes c.args.lines.now) (g.L.Sink.bytes c.args.lines.now) (lines_text (strobe_lines (state_of c.args.running.now))) =
    (0, append_none (g.L.Sink.bytes c.args.lines.now))
    in
    on_err _ none

pub returns-in_err-record_slot-clause-failures : goal.returns-in_err-record_slot-clause-failures
returns-in_err-record_slot-clause-failures g c =
    let told : g.V.Sink.failed c.record_slot.new.vcd ≡ failed_after (is_write_fault c.from_residual.result) (g.V.Sink.failed c.args.vcd.now) = search rules in
    first_failed _ _ _ _ _ told refl

pub returns-in_err-print_some-clause-part : goal.returns-in_err-print_some-clause-part
returns-in_err-print_some-clause-part g c =
    let whole : (d : Parts) (before : List Slot) → HasNoted c.args.recorder.now (g.V.Sink.bytes c.args.vcd.now) d before →
    AppendsSlotsPart (g.V.Sink.bytes c.args.vcd.now) (g.V.Sink.bytes c.record_slot.new.vcd) d before (ended_slot EndSlot (state_of c.args.running.now)) =
    λ d before h. slots_whole (g.V.Sink.bytes c.args.vcd.now) (g.V.Sink.bytes c.record_slot.new.vcd) d before (ended_slot EndSlot (state_of c.args.running.now)) (c.in_ok-record_slot.ensures.recorded.bytes d before h)
    in
    on_err _ whole

pub returns-in_err-print_some-clause-lines_part : goal.returns-in_err-print_some-clause-lines_part
returns-in_err-print_some-clause-lines_part g c =
    on_err _
    (subst (λ (s : State). AppendsPart (g.L.Sink.bytes c.args.lines.now) (g.L.Sink.bytes c.print_some.new.lines) (lines_text (strobe_lines s))) c.record_slot.ensures.state
    (subst (λ (t : ℕ). AppendsPart (g.L.Sink.bytes c.args.lines.now) (g.L.Sink.bytes c.print_some.new.lines)
    (lines_text (map (λ (x : Called). strobe_line x c.record_slot.new.running.watched.store t) c.record_slot.new.running.calls.items))) c.time-time.ensures
    (subst (λ (l : List Called). AppendsPart (g.L.Sink.bytes c.args.lines.now) (g.L.Sink.bytes c.print_some.new.lines)
    (lines_text (map (λ (x : Called). strobe_line x c.record_slot.new.running.watched.store c.time-time.result) l))) c.deref.ensures.value c.in_err-print_some.ensures.err)))

pub returns-in_err-print_some-clause-failures : goal.returns-in_err-print_some-clause-failures
returns-in_err-print_some-clause-failures g c =
    let told : g.L.Sink.failed c.print_some.new.lines ≡ failed_after (is_write_fault c.from_residual-in_err-print_some.result) (g.L.Sink.failed c.args.lines.now) = search rules in
    second_failed _ _ _ _ _ c.in_ok-record_slot.ensures.failures told

pub returns-clause-lines : goal.returns-clause-lines
returns-clause-lines g c =
    subst (λ (s : State). Appends (g.L.Sink.bytes c.args.lines.now) (g.L.Sink.bytes c.print_some.new.lines) (lines_text (strobe_lines s))) c.record_slot.ensures.state
    (subst (λ (t : ℕ). Appends (g.L.Sink.bytes c.args.lines.now) (g.L.Sink.bytes c.print_some.new.lines)
    (lines_text (map (λ (x : Called). strobe_line x c.record_slot.new.running.watched.store t) c.record_slot.new.running.calls.items))) c.time-time.ensures
    (subst (λ (l : List Called). Appends (g.L.Sink.bytes c.args.lines.now) (g.L.Sink.bytes c.print_some.new.lines)
    (lines_text (map (λ (x : Called). strobe_line x c.record_slot.new.running.watched.store c.time-time.result) l))) c.deref.ensures.value c.in_ok-print_some.ensures.ok))
