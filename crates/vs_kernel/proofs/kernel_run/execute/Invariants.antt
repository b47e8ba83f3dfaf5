use Rattle.std.proofs.Common.{◌≡◌, ◌-◌, ◌≤◌, ◌<◌, map}
use Rattle.vs_run_regions.specs.vs_process.specs.Blocks.{inside_block}
use Rattle.vs_run_regions.specs.vs_process.specs.Executions.{is_combinational}
use Rattle.vs_kernel.specs.vs_run_steps.specs.Runs.{state_of}
use Rattle.vs_kernel.specs.Snapshot.{IsSnapshot}
use Rattle.vs_kernel.proofs.RunsLemmas.{HasRun}
use Rattle.vs_kernel.proofs.kernel_run.execute.Given as goal

abbrev pub invariant-loop-run : goal.invariant-loop-run
invariant-loop-run g l = record {
  run : HasRun l.design l.until l.steps (l.steps - l.left) (state_of l.run.running) l.run.writer (g.V.Sink.bytes l.fn.vcd) (g.V.Sink.bytes l.vcd) (g.L.Sink.bytes l.fn.lines) (g.L.Sink.bytes l.lines);
  within : l.left ≤ l.steps;
  inside : 0 < l.left → l.run.inside ≡ inside_block l.design.processes (state_of l.run.running).places;
  standing : IsSnapshot l.run;
  design : l.run.design ≡ l.design;
  blocks : l.run.blocks ≡ map is_combinational l.design.processes;
  failures : g.V.Sink.failed l.vcd ≡ g.V.Sink.failed l.fn.vcd;
  line_failures : g.L.Sink.failed l.lines ≡ g.L.Sink.failed l.fn.lines;
}

abbrev pub decreases-loop-run : goal.decreases-loop-run
decreases-loop-run g l = l.left
