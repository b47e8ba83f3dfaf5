use Rattle.std.proofs.Common.{◌≡◌, ◌++◌, replicate}
use Rattle.vs_design.proofs.planes.fill.Given as goal

abbrev pub invariant-loop : goal.invariant-loop
invariant-loop l = l.plane.items ≡ l.fn.plane.items ++ replicate l.counter l.word
