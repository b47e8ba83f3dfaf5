use Rattle.std.proofs.Common.{◌≡◌, map, take}
use Rattle.vs_run_active.specs.vs_process.specs.Executions.{is_combinational}
use Rattle.vs_kernel.proofs.moves_start.blocks_of.Given as goal

abbrev pub invariant-loop-process : goal.invariant-loop-process
invariant-loop-process l = l.blocks.items ≡ map is_combinational (take l.process-index l.processes)
