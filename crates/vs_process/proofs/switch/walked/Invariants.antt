use Rattle.std.proofs.Common.{◌≡◌, drop}
use Rattle.vs_process.specs.Switches.{any_index}
use Rattle.vs_process.proofs.switch.walked.Given as goal

abbrev pub invariant-loop-e : goal.invariant-loop-e
invariant-loop-e l = any_index l.kind l.digits l.store l.time (drop l.e-index l.labels) l.otherwise ≡ any_index l.kind l.digits l.store l.time l.labels l.otherwise
