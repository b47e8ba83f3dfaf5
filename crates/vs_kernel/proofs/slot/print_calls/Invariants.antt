use Rattle.std.proofs.Common.{◌≡◌, map, take}
use Rattle.std.specs.Io.KnownBytes.{Appends}
use Rattle.vs_run_active.specs.vs_process.specs.Executions.{strobe_line}
use Rattle.vs_run_steps.specs.Prints.{lines_text}
use Rattle.vs_kernel.proofs.slot.print_calls.Given as goal

abbrev pub invariant-loop-call : goal.invariant-loop-call
invariant-loop-call g l = record {
  text :
      Appends (g.L.Sink.bytes l.fn.lines) (g.L.Sink.bytes l.lines) (lines_text (map (λ c. strobe_line c l.store l.time) (take l.call-index l.calls)));
  failures : g.L.Sink.failed l.lines ≡ g.L.Sink.failed l.fn.lines;
}
