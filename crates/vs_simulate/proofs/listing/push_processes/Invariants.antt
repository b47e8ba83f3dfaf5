use Rattle.std.proofs.Common.{◌≡◌, ◌++◌, drop}
use Rattle.std.specs.List.{flat_map}
use Rattle.vs_simulate.specs.Listing.{process_line}
use Rattle.vs_simulate.proofs.listing.push_processes.Given as goal

abbrev pub invariant-loop-process : goal.invariant-loop-process
invariant-loop-process l = l.text.items ++ flat_map process_line (drop l.process-index l.processes) ≡ l.fn.text.items ++ flat_map process_line l.processes
