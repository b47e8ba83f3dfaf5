use Rattle.std.proofs.Common.{ℕ, ◌⊎◌, ◌↔◌}
use Rattle.std.specs.List.{Contains}
use Rattle.vs_graph.specs.Rows.{row}
use Rattle.vs_slots.proofs.Unions.{SomeBefore}
use Rattle.vs_slots.proofs.listing.put_residues.Given as goal

abbrev pub invariant-loop-i : goal.invariant-loop-i
invariant-loop-i l = (r : ℕ) → (Contains l.out r ↔ (Contains l.fn.out r ⊎ SomeBefore l.numbers l.i-index (λ (i : ℕ). Contains (row l.table i) r)))
