use Rattle.std.proofs.Common.{◌≡◌, ℕ, ◌⊎◌, ◌↔◌}
use Rattle.std.specs.List.{Contains}
use Rattle.vs_slots.specs.Firing.{InPhaseOf}
use Rattle.vs_slots.proofs.Unions.{SomeBefore}
use Rattle.vs_slots.proofs.firing.phased.Given as goal

abbrev pub invariant-loop-residue : goal.invariant-loop-residue
invariant-loop-residue l = (r : ℕ) → (Contains l.all.items r ↔
    (⊥ ⊎ SomeBefore l.residues l.residue-index (λ (x : ℕ). (x ≡ r) × InPhaseOf l.clock l.edge l.modulus x)))
