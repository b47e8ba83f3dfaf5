use Rattle.std.proofs.Common.{ℕ, ◌<◌, ◌↔◌}
use Rattle.std.specs.List.{Contains}
use Rattle.vs_graph.proofs.families.gather.Given as goal

abbrev pub invariant-loop-i : goal.invariant-loop-i
invariant-loop-i g l = (r : ℕ) → (Contains l.all.items r ↔ ((i : ℕ) × (i < l.i) × g.F.Family.has l.family i r))
