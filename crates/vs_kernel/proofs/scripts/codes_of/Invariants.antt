use Rattle.std.proofs.Common.{◌≡◌, map, take}
use Rattle.vs_kernel.proofs.scripts.codes_of.Given as goal

abbrev pub invariant-loop-process : goal.invariant-loop-process
invariant-loop-process l = l.codes.items ≡ map (λ p. p.body) (take l.process-index l.processes)
