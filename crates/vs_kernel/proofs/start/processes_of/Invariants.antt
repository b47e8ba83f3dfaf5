use Rattle.std.proofs.Common.{take}
use Rattle.vs_kernel.specs.Starting.{AreStarted}
use Rattle.vs_kernel.proofs.start.processes_of.Given as goal

abbrev pub invariant-loop-script : goal.invariant-loop-script
invariant-loop-script l = AreStarted (take l.script-index l.scripts) l.processes
