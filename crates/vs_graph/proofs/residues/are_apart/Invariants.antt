use Rattle.std.proofs.Common.{ℕ, ◌<◌, get_or}
use Rattle.std.specs.List.{Contains}
use Rattle.vs_graph.proofs.residues.are_apart.Given as goal

abbrev pub invariant-loop-residue : goal.invariant-loop-residue
invariant-loop-residue l = (k : ℕ) → k < l.residue-index → Contains l.b (get_or l.a k 0) → ⊥
